-- The first step of a call: what a frame says, whatever the parser kept.
use Rattle.std.specs.Prelude.{ℕ, zero, suc, ◌+◌, ◌-◌, ◌*◌, ◌/◌, ◌%◌, ◌^◌, Bool, true, false, List, [], ◌∷◌, ◌++◌, leb, ltb, eqb, length, take, drop}
use Rattle.std.proofs.Math.Option.{Option, none, some}
use Rattle.vp8_records.specs.declared.Mode.{Mode}
use Rattle.vp8_records.specs.declared.Mode.TheVariants.{Rust, Standard}
use Rattle.vp8_records.specs.declared.Refusal.{Refusal}
use Rattle.vp8_records.specs.declared.Refusal.TheVariants.{ChunkTooShort, InvalidStartCode, FrameTooLong}
use Rattle.rfc6386.specs.Bytes.{le2, le3}
use Rattle.rfc6386.specs.Decoder.{State, Out, start, bits, whole, count_of, position, past}
use Rattle.rfc6386.specs.Reads.{run}
use Rattle.rfc6386.specs.Coded.{Coded, header}

-- the uncompressed chunk, sections 9.1 and 19.1: its size in bytes is 10 for a key frame and 3 otherwise; width and height are the two
-- numbers as they are coded, 14 bits of size below 2 of scale
pub record Chunk : Type 0 where
  pub key : Bool
  pub version : ℕ
  pub show : Bool
  pub first : ℕ
  pub size : ℕ
  pub width : ℕ
  pub height : ℕ

-- the pixels of one of the two, and its scale code
abbrev pub pixels : ℕ → ℕ
pixels n = n % 2 ^ 14

abbrev pub scale : ℕ → ℕ
scale n = n / 2 ^ 14

-- the fields of the tag, in 3 bytes
abbrev pub tagged : ℕ → Bool → ℕ → ℕ → ℕ → Chunk
tagged tag key size width height = record {
  key = key;
  version = tag / 2 % 8;
  show = eqb (tag / 16 % 2) 1;
  first = tag / 32;
  size = size;
  width = width;
  height = height;
}

-- those of a key frame, whose sizes follow its start code
abbrev pub keyed : List ℕ → Chunk
keyed f = tagged (le3 f 0) true 10 (le2 f 6) (le2 f 8)

pub data Opened : Type 0 where
  shut : Refusal → Opened
  opened : Chunk → Opened

-- a key frame's start code and sizes
unfoldable pub key_chunk : List ℕ → Opened
key_chunk f = elim (ltb (length f) 6) [
  | true ↦ shut ChunkTooShort
  | false ↦ elim (eqb (le3 f 3) 0x2a019d) [
    | false ↦ shut (InvalidStartCode (le3 f 3))
    | true ↦ elim (ltb (length f) 10) [
      | true ↦ shut ChunkTooShort
      | false ↦ opened (keyed f)
    ]
  ]
]

-- refusals 6, 1 and 2, or the chunk
unfoldable pub chunk : List ℕ → Opened
chunk f = elim (leb (2 ^ 28) (length f)) [
  | true ↦ shut (FrameTooLong (length f))
  | false ↦ elim (ltb (length f) 3) [
    | true ↦ shut ChunkTooShort
    | false ↦ elim (eqb (le3 f 0 % 2) 0) [
      | true ↦ key_chunk f
      | false ↦ opened (tagged (le3 f 0) false 3 0 0)
    ]
  ]
]

-- what the outside sees of the decoder after the header
pub record Snapshot : Type 0 where
  pub range : ℕ
  pub value : ℕ
  pub count : ℕ
  pub position : ℕ
  pub past : ℕ
  pub bools : ℕ

unfoldable pub snapshot : ℕ → State → Snapshot
snapshot l s =
    record { range = s.r; value = whole l s; count = count_of s; position = position l s; past = past l s; bools = s.n }

-- the k sizes that are coded, 3 bytes each, from place i of the area on (section 9.5)
unfoldable pub coded_sizes : ℕ → List ℕ → ℕ → List ℕ
coded_sizes zero area i = []
coded_sizes (suc k) area i = le3 area i ∷ coded_sizes k area (i + 3)

unfoldable pub sum : List ℕ → ℕ
sum [] = 0
sum (x ∷ xs) = x + sum xs

-- the sizes of n partitions, the last of which is the rest; none, for refusal 5, where the size bytes or the partitions run past the end
unfoldable pub sizes : ℕ → List ℕ → ℕ → Option (List ℕ)
sizes n area first =
    let from = first + 3 * (n - 1) in
    let coded = coded_sizes (n - 1) area first in
    elim (ltb (length area) from) [
      | true ↦ none
      | false ↦ elim (ltb (length area) (from + sum coded)) [
        | true ↦ none
        | false ↦ some (coded ++ (length area - (from + sum coded)) ∷ [])
      ]
    ]

-- what follows a chunk: refusal 3 with the first partition's end and the length, refusal 4, or a header that was read to its end
pub data Body : Type 0 where
  beyond : ℕ → ℕ → Body
  empty : Body
  read : Coded → Snapshot → Option (List ℕ) → Body

-- what the decoder may read of the area: the first partition, by first_part_size; to the Rust all of it (D2)
abbrev pub held : Mode → ℕ → List ℕ → List ℕ
held Rust first area = area
held Standard first area = take first area

-- the header's tree, run over the bytes that are held
abbrev pub decoded : Mode → Bool → List ℕ → Out Coded
decoded md key bytes = run (header md key) (bits bytes) (start bytes)

-- the snapshot is of the bytes that are held; the sizes stand in the area
unfoldable pub headed : Chunk → List ℕ → List ℕ → Out Coded → Body
headed k area bytes o = read o.got (snapshot (bits bytes) o.then) (sizes (2 ^ o.got.log2parts) area k.first)

unfoldable pub body : Mode → Chunk → List ℕ → Body
body md k f =
    let area = drop k.size f in
    elim (ltb (length f) (k.size + k.first)) [
      | true ↦ beyond (k.size + k.first) (length f)
      | false ↦ elim (held md k.first area) [
        | [] ↦ empty
        | b ∷ bs ↦ headed k area (b ∷ bs) (decoded md k.key (b ∷ bs))
      ]
    ]

pub data Said : Type 0 where
  refused : Refusal → Said
  follows : Chunk → Body → Said

abbrev pub inside : Mode → Opened → List ℕ → Said
inside md (shut r) f = refused r
inside md (opened k) f = follows k (body md k f)

unfoldable pub decode : Mode → List ℕ → Said
decode md f = inside md (chunk f) f
