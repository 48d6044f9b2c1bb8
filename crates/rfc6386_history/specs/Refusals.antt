-- The table of refusals (docs/RULES.md), from the bytes of a frame: `outcome_of` is its columns "Exactly when" and "Carries", `left` its
-- column "State left". proofs/Refusals.antt shows that every call is as it says.
use Rattle.std.specs.Prelude.{ℕ, ◌+◌, ◌-◌, ◌*◌, ◌/◌, ◌%◌, ◌^◌, ◌↔◌, ◌≡◌, Bool, true, false, not, ◌&&◌, ◌||◌, List, [], ◌∷◌, leb, ltb, eqb, length, drop, Ok, Err}
use Rattle.vp8_records.specs.declared.Mode.{Mode}
use Rattle.vp8_records.specs.declared.Parser.{Parser}
use Rattle.vp8_records.specs.declared.Header.{Header}
use Rattle.vp8_records.specs.Outcome.{Outcome, number_of, carried_by}
use Rattle.vp8_records.specs.declared.Refusal.TheVariants.{ChunkTooShort, InvalidStartCode, InvalidPartitionSize, EmptyArea, EndOfHeader, FrameTooLong}
use Rattle.vp8_records.specs.declared.Parsed.{Parsed}
use Rattle.vp8_records.specs.Start.{blank}
use Rattle.rfc6386.specs.Bytes.{le3}
use Rattle.rfc6386.specs.Decoder.{pick}
use Rattle.rfc6386.specs.Coded.{Coded}
use Rattle.rfc6386.specs.Frame.{keyed, held, decoded, coded_sizes, sum}
use Rattle.rfc6386.specs.Call.{apply, cleared, reset, call}

-- bit 0 of the tag is clear
abbrev pub key_of : List ℕ → Bool
key_of f = eqb (le3 f 0 % 2) 0

abbrev pub right_code : List ℕ → Bool
right_code f = eqb (le3 f 3) 0x2a019d

-- 6
abbrev pub too_long : List ℕ → Bool
too_long f = leb (2 ^ 28) (length f)

-- 1: under 3 bytes; key frame under 6, or under 10 with a right start code
abbrev pub too_short : List ℕ → Bool
too_short f = ltb (length f) 3 || key_of f && (ltb (length f) 6 || right_code f && ltb (length f) 10)

-- 2: key frame of 6 or more bytes, other start code
abbrev pub other_code : List ℕ → Bool
other_code f = key_of f && not (ltb (length f) 6) && not (right_code f)

-- the chunk of a key frame, or of another; what follows is the area
abbrev pub chunk_size : Bool → ℕ
chunk_size key = pick key 10 3

abbrev pub area : Bool → List ℕ → List ℕ
area key f = drop (chunk_size key) f

-- bits 5 to 23 of the tag
abbrev pub first_size : List ℕ → ℕ
first_size f = le3 f 0 / 32

-- 3: chunk + first_part_size > length
abbrev pub beyond_end : Bool → List ℕ → Bool
beyond_end key f = ltb (length f) (chunk_size key + first_size f)

-- 4: nothing to read
abbrev pub is_empty : List ℕ → Bool
is_empty [] = true
is_empty (x ∷ xs) = false

-- the bytes that the decoder runs over
abbrev pub held_of : Mode → Bool → List ℕ → List ℕ
held_of md key f = held md (first_size f) (area key f)

-- the coded fields, read over them
unfoldable pub coded : Mode → Bool → List ℕ → Coded
coded md key f = (decoded md key (held_of md key f)).got

abbrev pub partitions : Mode → Bool → List ℕ → ℕ
partitions md key f = 2 ^ (coded md key f).log2parts

-- the size bytes' end in the area, and the sizes that they code
abbrev pub sizes_end : Mode → Bool → List ℕ → ℕ
sizes_end md key f = first_size f + 3 * (partitions md key f - 1)

abbrev pub coded_of : Mode → Bool → List ℕ → List ℕ
coded_of md key f = coded_sizes (partitions md key f - 1) (area key f) (first_size f)

-- 5: first_part_size + 3(n − 1), or that plus the n − 1 sizes, > area
abbrev pub sizes_beyond : Mode → Bool → List ℕ → Bool
sizes_beyond md key f =
    ltb (length (area key f)) (sizes_end md key f) || ltb (length (area key f)) (sizes_end md key f + sum (coded_of md key f))

-- 3, 4 and 5, with what they carry
abbrev pub after_chunk : Mode → Bool → List ℕ → Outcome
after_chunk md key f =
    pick (beyond_end key f) (Err (InvalidPartitionSize (chunk_size key + first_size f) (length f)))
    (pick (is_empty (held_of md key f)) (Err EmptyArea) (pick (sizes_beyond md key f) (Err EndOfHeader) (Ok tt)))

-- all six, in order of checking
unfoldable pub outcome_of : Mode → List ℕ → Outcome
outcome_of md f =
    pick (too_long f) (Err (FrameTooLong (length f)))
    (pick (too_short f) (Err ChunkTooShort) (pick (other_code f) (Err (InvalidStartCode (le3 f 3))) (after_chunk md (key_of f) f)))

-- the state that a key frame or another starts from, once its chunk is valid: reset if key, else unchanged
abbrev pub base_of : Bool → List ℕ → Parser → Parser
base_of key f p = pick key (reset (keyed f)) p

-- the state left, by what the frame starts from and its coded fields; it is "as after the header" for 5 and for an accepted frame
abbrev pub left : Outcome → (Parser → Parser) → Coded → Parser → Parser
left (Err (FrameTooLong n)) base c p = p
left (Err ChunkTooShort) base c p = p
left (Err (InvalidStartCode code)) base c p = p
left (Err (InvalidPartitionSize end n)) base c p = base p
left (Err EmptyArea) base c p = base (cleared p)
left (Err EndOfHeader) base c p = apply c (base p)
left (Ok u) base c p = apply c (base p)

-- a refusal has the blank header
abbrev pub head_of : Outcome → Header → Header
head_of (Ok u) h = h
head_of (Err r) h = blank

-- an answer is the refusal n: it carries these values, has the blank header, and leaves this state
pub record Refused (a : Parsed) (n : ℕ) (values : List ℕ) (state : Parser) : Type 0 where
  pub number : number_of a.outcome ≡ n
  pub carries : carried_by a.outcome ≡ values
  pub header : a.header ≡ blank
  pub leaves : a.parser ≡ state

-- 6, 1 and 2 do not refuse it: its chunk is valid
abbrev pub opens : List ℕ → Bool
opens f = not (too_long f || too_short f || other_code f)

-- each number exactly when its row's cause holds and no earlier row's does
pub record Exactly (md : Mode) (p : Parser) (f : List ℕ) : Type 0 where
  pub six : (number_of (call md p f).outcome ≡ 6) ↔ (too_long f ≡ true)
  pub one : (number_of (call md p f).outcome ≡ 1) ↔ (not (too_long f) && too_short f ≡ true)
  pub two : (number_of (call md p f).outcome ≡ 2) ↔ (not (too_long f || too_short f) && other_code f ≡ true)
  pub three : (number_of (call md p f).outcome ≡ 3) ↔ (opens f && beyond_end (key_of f) f ≡ true)
  pub four : (number_of (call md p f).outcome ≡ 4) ↔ (opens f && not (beyond_end (key_of f) f) && is_empty (held_of md (key_of f) f) ≡ true)
  pub five : (number_of (call md p f).outcome ≡ 5)
      ↔ (opens f && not (beyond_end (key_of f) f || is_empty (held_of md (key_of f) f)) && sizes_beyond md (key_of f) f ≡ true)
  pub accepted : (number_of (call md p f).outcome ≡ 0)
      ↔ (opens f && not (beyond_end (key_of f) f || is_empty (held_of md (key_of f) f) || sizes_beyond md (key_of f) f) ≡ true)
