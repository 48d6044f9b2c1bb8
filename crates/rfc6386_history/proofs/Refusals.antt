-- A call answers as the table of refusals says: by cases on each test of the definition, taken apart once. What each refusal carries and
-- leaves, and its exact cause, are then read off the table.
use Prim.Native.Nat.{ℕ, zero, suc, ◌+◌, ◌-◌, ◌*◌, ◌^◌, ◌<◌}
use native.Mathlib.Omega.{arith}
use mathlib.Core.Logic.{◌↔◌}
use mathlib.Core.Path.{◌≡◌, refl, sym, ap, ◌∙◌}
use mathlib.Core.Bool.{Bool, true, false, not, ◌&&◌, ◌||◌}
use mathlib.Core.Option.{none, some}
use mathlib.Core.List.{List, [], ◌∷◌, map}
use lib.Dec.{ltb, eqb}
use lib.ListN.{length, get_or}
use borrow.Author.Tests.{eqb-true, eq-eqb}
use Rattle.std.specs.Prelude.{Ok, Err}
use Rattle.vp8_records.specs.declared.Mode.{Mode}
use Rattle.vp8_records.specs.declared.Parser.{Parser}
use Rattle.vp8_records.specs.declared.Parsed.{Parsed}
use Rattle.vp8_records.specs.declared.Refusal.{Refusal}
use Rattle.vp8_records.specs.Outcome.{Outcome, number_of, carried_by}
use Rattle.vp8_records.specs.declared.Refusal.TheVariants.{ChunkTooShort, InvalidStartCode, InvalidPartitionSize, EmptyArea, EndOfHeader, FrameTooLong}
use Rattle.vp8_records.specs.Outcome as Tell
use Rattle.vp8_records.specs.Start.{blank}
use Rattle.rfc6386.specs.Bytes.{le2, le3}
use Rattle.rfc6386.specs.Decoder.{pick}
use Rattle.rfc6386.specs.Coded.{Coded}
use Rattle.rfc6386.specs.Frame.{Chunk, tagged, keyed, Opened, shut, opened, key_chunk, chunk, Snapshot, coded_sizes, sum, sizes, beyond, empty, read, decoded, headed, body, follows, inside, decode}
use Rattle.rfc6386.specs.Call.{apply, cleared, base, answer, finish, call}
use Rattle.rfc6386_history.specs.Refusals.{key_of, right_code, too_long, too_short, other_code, chunk_size, area, first_size, beyond_end, is_empty, held_of, coded, sizes_beyond, after_chunk, outcome_of, base_of, left, head_of, Refused, opens, Exactly}

-- the answer a is the table's for the outcome o
abbrev pub Told : Parsed → Outcome → (Parser → Parser) → Coded → Parser → Type 0
Told a o from c p = a ≡ answer o (head_of o a.header) (left o from c p)

-- the definition's chunk by its tests: too long, under 3, key frame, under 6, right start code, under 10
abbrev chunk_by : List ℕ → Bool → Bool → Bool → Bool → Bool → Bool → Opened
chunk_by f a b key d e g = elim a [
  | true ↦ shut (FrameTooLong (length f))
  | false ↦ elim b [
    | true ↦ shut ChunkTooShort
    | false ↦ elim key [
      | true ↦ elim d [
        | true ↦ shut ChunkTooShort
        | false ↦ elim e [
          | false ↦ shut (InvalidStartCode (le3 f 3))
          | true ↦ elim g [ true ↦ shut ChunkTooShort | false ↦ opened (keyed f) ]
        ]
      ]
      | false ↦ opened (tagged (le3 f 0) false 3 0 0)
    ]
  ]
]

-- a chunk is opened where 6, 1 and 2 do not refuse, and knows its kind
abbrev pub Opens : Opened → Bool → Bool → Type 0
Opens (shut o) key valid = valid ≡ false
Opens (opened k) key valid = (k.key ≡ key) × (valid ≡ true)

pub chunk_opens : (f : List ℕ) → Opens (chunk f) (key_of f) (opens f)
unfolding chunk key_chunk
chunk_opens f = go (too_long f) (ltb (length f) 3) (key_of f) (ltb (length f) 6) (right_code f) (ltb (length f) 10)
  where
    go : (a b key d e g : Bool) → Opens (chunk_by f a b key d e g) key (not (a || (b || key && (d || e && g)) || key && not d && not e))
    go true b key d e g = refl
    go false true key d e g = refl
    go false false false d e g = (refl, refl)
    go false false true true e g = refl
    go false false true false false g = refl
    go false false true false true true = refl
    go false false true false true false = (refl, refl)

module _ (md : Mode) (p : Parser) where
  -- a header read to its end
  told_read : (k : Chunk) (c : Coded) (s : Snapshot) (n : ℕ) (xs : List ℕ) (first : ℕ)
      → let from = first + 3 * (n - 1) in
      let beyond = ltb (length xs) from || ltb (length xs) (from + sum (coded_sizes (n - 1) xs first)) in
      Told (finish (follows k (read c s (sizes n xs first))) p) (pick beyond (Err EndOfHeader) (Ok tt)) (base k) c p
  unfolding sizes
  told_read k c s n xs first = go (ltb (length xs) _) (ltb (length xs) _) _
    where
      go : (a b : Bool) (ss : List ℕ)
          → Told (finish (follows k (read c s (elim a [ true ↦ none | false ↦ elim b [ true ↦ none | false ↦ some ss ] ]))) p)
          (pick (a || b) (Err EndOfHeader) (Ok tt)) (base k) c p
      go true b ss = refl
      go false true ss = refl
      go false false ss = refl

  -- what follows the chunk
  module _ (f : List ℕ) where
    told_after : (key : Bool) (w h : ℕ)
        → let k = tagged (le3 f 0) key (chunk_size key) w h in
        Told (finish (follows k (body md k f)) p) (after_chunk md key f) (base k) (coded md key f) p
    unfolding body headed coded
    told_after key w h = go (beyond_end key f) (held_of md key f)
      where
        k : Chunk
        k = tagged (le3 f 0) key (chunk_size key) w h

        got : List ℕ → Coded
        got bytes = (decoded md key bytes).got

        beyond_in : List ℕ → Bool
        beyond_in bytes =
            let n = 2 ^ (got bytes).log2parts in
            let from = first_size f + 3 * (n - 1) in
            ltb (length (area key f)) from || ltb (length (area key f)) (from + sum (coded_sizes (n - 1) (area key f) (first_size f)))

        go : (a : Bool) (bytes : List ℕ)
            → Told
            (finish
            (follows k
            (elim a [
              | true ↦ beyond (chunk_size key + first_size f) (length f)
              | false ↦ elim bytes [ [] ↦ empty | b ∷ bs ↦ headed k (area key f) (b ∷ bs) (decoded md key (b ∷ bs)) ]
            ]))
            p)
            (pick a (Err (InvalidPartitionSize (chunk_size key + first_size f) (length f)))
            (pick (is_empty bytes) (Err EmptyArea) (pick (beyond_in bytes) (Err EndOfHeader) (Ok tt))))
            (base k) (got bytes) p
        go true bytes = refl
        go false [] = refl
        go false (b ∷ bs) = told_read k (got (b ∷ bs)) _ (2 ^ (got (b ∷ bs)).log2parts) (area key f) (first_size f)

    -- every call
    pub told : Told (call md p f) (outcome_of md f) (base_of (key_of f) f) (coded md (key_of f) f) p
    unfolding call decode chunk key_chunk outcome_of
    told = go (too_long f) (ltb (length f) 3) (key_of f) (ltb (length f) 6) (right_code f) (ltb (length f) 10)
      where
        go : (a b key d e g : Bool)
            → Told (finish (inside md (chunk_by f a b key d e g) f) p)
            (pick a (Err (FrameTooLong (length f)))
            (pick (b || key && (d || e && g)) (Err ChunkTooShort)
            (pick (key && not d && not e) (Err (InvalidStartCode (le3 f 3))) (after_chunk md key f))))
            (base_of key f) (coded md key f) p
        go true b key d e g = refl
        go false true key d e g = refl
        go false false false d e g = told_after false 0 0
        go false false true true e g = refl
        go false false true false false g = refl
        go false false true false true true = refl
        go false false true false true false = told_after true (le2 f 6) (le2 f 8)

-- the table by its causes, in order
abbrev outcome_by : List ℕ → Bool → Bool → Bool → Bool → Bool → Bool → Outcome
outcome_by f a b c d e g =
    pick a (Err (FrameTooLong (length f)))
    (pick b (Err ChunkTooShort)
    (pick c (Err (InvalidStartCode (le3 f 3)))
    (pick d (Err (InvalidPartitionSize (chunk_size (key_of f) + first_size f) (length f)))
    (pick e (Err EmptyArea) (pick g (Err EndOfHeader) (Ok tt))))))

-- an outcome with the numbers of the column "Carries"
abbrev carrying : List ℕ → Outcome → Outcome
carrying f (Ok u) = Ok u
carrying f (Err ChunkTooShort) = Err ChunkTooShort
carrying f (Err (InvalidStartCode code)) = Err (InvalidStartCode (le3 f 3))
carrying f (Err (InvalidPartitionSize end n)) = Err (InvalidPartitionSize (chunk_size (key_of f) + first_size f) (length f))
carrying f (Err EmptyArea) = Err EmptyArea
carrying f (Err EndOfHeader) = Err EndOfHeader
carrying f (Err (FrameTooLong n)) = Err (FrameTooLong (length f))

-- whether what an outcome leaves starts from the fresh parser
abbrev pub resets : Outcome → Bool → Bool
resets (Err (FrameTooLong n)) key = false
resets (Err ChunkTooShort) key = false
resets (Err (InvalidStartCode code)) key = false
resets (Err (InvalidPartitionSize end n)) key = key
resets (Err EmptyArea) key = key
resets (Err EndOfHeader) key = key
resets (Ok u) key = key

-- what the causes say of the outcome: which of the seven numbers it has, what it carries, whether it resets
record Rows (f : List ℕ) (a b c d e g : Bool) : Type 0 where
  numbers : map (λ m. eqb (number_of (outcome_by f a b c d e g)) m) (6 ∷ 1 ∷ 2 ∷ 3 ∷ 4 ∷ 5 ∷ 0 ∷ [])
      ≡ a ∷ (not a && b) ∷ (not (a || b) && c) ∷ (not (a || b || c) && d) ∷ (not (a || b || c) && not d && e)
      ∷ (not (a || b || c) && not (d || e) && g) ∷ (not (a || b || c) && not (d || e || g)) ∷ []
  carries : outcome_by f a b c d e g ≡ carrying f (outcome_by f a b c d e g)
  resetting : not (a || b || c) && key_of f ≡ resets (outcome_by f a b c d e g) (key_of f)

rows : (f : List ℕ) (a b c d e g : Bool) → Rows f a b c d e g
rows f true b c d e g = record { numbers = refl; carries = refl; resetting = refl }
rows f false true c d e g = record { numbers = refl; carries = refl; resetting = refl }
rows f false false true d e g = record { numbers = refl; carries = refl; resetting = refl }
rows f false false false true e g = record { numbers = refl; carries = refl; resetting = refl }
rows f false false false false true g = record { numbers = refl; carries = refl; resetting = refl }
rows f false false false false false true = record { numbers = refl; carries = refl; resetting = refl }
rows f false false false false false false = record { numbers = refl; carries = refl; resetting = refl }

rows_of : (md : Mode) (f : List ℕ)
    → Rows f (too_long f) (too_short f) (other_code f) (beyond_end (key_of f) f) (is_empty (held_of md (key_of f) f)) (sizes_beyond md (key_of f) f)
rows_of md f = rows f _ _ _ _ _ _

pub resets_opened : (md : Mode) (f : List ℕ) → opens f && key_of f ≡ resets (outcome_of md f) (key_of f)
unfolding outcome_of
resets_opened md f = (rows_of md f).resetting

module _ (md : Mode) (p : Parser) (f : List ℕ) where
  -- the columns "Exactly when" and "Carries"
  pub outcome_is : (call md p f).outcome ≡ outcome_of md f
  outcome_is = ap (λ (a : Parsed). a.outcome) (told md p f)

  -- the column "State left"
  pub left_is : (call md p f).parser ≡ left (outcome_of md f) (base_of (key_of f) f) (coded md (key_of f) f) p
  left_is = ap (λ (a : Parsed). a.parser) (told md p f)

  -- the outcome o with what the row of q leaves
  abbrev said : Outcome → Outcome → Parsed
  said o q = answer o (head_of q (call md p f).header) (left q (base_of (key_of f) f) (coded md (key_of f) f) p)

  row : (o : Outcome) → (call md p f).outcome ≡ o → call md p f ≡ said (carrying f o) o
  unfolding outcome_of
  row o e =
      let is : outcome_of md f ≡ o = sym outcome_is ∙ e in
      told md p f ∙ ap (λ (x : Outcome). said x (outcome_of md f)) (rows_of md f).carries ∙ ap (λ (x : Outcome). said (carrying f x) x) is

  -- every refusal has the blank header
  pub refused_blank : 0 < number_of (call md p f).outcome → (call md p f).header ≡ blank
  refused_blank h = ap (λ (a : Parsed). a.header) (told md p f) ∙ go (outcome_of md f) (rw outcome_is at h)
    where
      go : (o : Outcome) → 0 < number_of o → head_of o (call md p f).header ≡ blank
      go (Ok u) n = absurd (omega arith)
      go (Err r) n = refl

  refused : (r : Refusal) → (call md p f).outcome ≡ Err r
      → Refused (call md p f) (number_of (Err r)) (carried_by (carrying f (Err r)))
      (left (Err r) (base_of (key_of f) f) (coded md (key_of f) f) p)
  refused r e = record {
    number = ap number_of e;
    carries = ap (λ (a : Parsed). carried_by a.outcome) (row (Err r) e);
    header = ap (λ (a : Parsed). a.header) (row (Err r) e);
    leaves = ap (λ (a : Parsed). a.parser) (row (Err r) e);
  }

  -- what each refusal carries and leaves, row by row
  pub refused_6 : (n : ℕ) → (call md p f).outcome ≡ Err (FrameTooLong n) → Refused (call md p f) 6 (length f ∷ []) p
  refused_6 n = refused (FrameTooLong n)

  pub refused_1 : (call md p f).outcome ≡ Err ChunkTooShort → Refused (call md p f) 1 [] p
  refused_1 = refused ChunkTooShort

  pub refused_2 : (code : ℕ) → (call md p f).outcome ≡ Err (InvalidStartCode code) → Refused (call md p f) 2 (le3 f 3 ∷ []) p
  refused_2 code = refused (InvalidStartCode code)

  pub refused_3 : (end n : ℕ) → (call md p f).outcome ≡ Err (InvalidPartitionSize end n)
      → Refused (call md p f) 3 ((chunk_size (key_of f) + first_size f) ∷ length f ∷ []) (base_of (key_of f) f p)
  refused_3 end n = refused (InvalidPartitionSize end n)

  pub refused_4 : (call md p f).outcome ≡ Err EmptyArea → Refused (call md p f) 4 [] (base_of (key_of f) f (cleared p))
  refused_4 = refused EmptyArea

  pub refused_5 : (call md p f).outcome ≡ Err EndOfHeader
      → Refused (call md p f) 5 [] (apply (coded md (key_of f) f) (base_of (key_of f) f p))
  refused_5 = refused EndOfHeader

  -- and what an accepted frame leaves
  pub accepted_leaves : (call md p f).outcome ≡ Ok tt → (call md p f).parser ≡ apply (coded md (key_of f) f) (base_of (key_of f) f p)
  accepted_leaves e = ap (λ (a : Parsed). a.parser) (row (Ok tt) e)

  decided : (n : ℕ) (b : Bool) → eqb (number_of (outcome_of md f)) n ≡ b → (number_of (call md p f).outcome ≡ n) ↔ (b ≡ true)
  decided n b e = rw outcome_is (λ h. sym e ∙ eq-eqb _ n h, λ h. eqb-true _ n (e ∙ h))

  -- every refusal has its one cause
  pub exactly : Exactly md p f
  unfolding outcome_of
  exactly =
      let at : ℕ → List Bool → Bool = λ i bs. get_or bs i false in
      let m = (rows_of md f).numbers in
      record {
        six = decided 6 _ (ap (at 0) m);
        one = decided 1 _ (ap (at 1) m);
        two = decided 2 _ (ap (at 2) m);
        three = decided 3 _ (ap (at 3) m);
        four = decided 4 _ (ap (at 4) m);
        five = decided 5 _ (ap (at 5) m);
        accepted = decided 0 _ (ap (at 6) m);
      }

-- an outcome from its number and what it carries
abbrev back : Tell.Told → Outcome
back t = elim t.number [
  | zero ↦ Ok tt
  | suc a ↦ elim a [
    | zero ↦ Err ChunkTooShort
    | suc b ↦ elim b [
      | zero ↦ Err (InvalidStartCode (get_or t.carried 0 0))
      | suc c ↦ elim c [
        | zero ↦ Err (InvalidPartitionSize (get_or t.carried 0 0) (get_or t.carried 1 0))
        | suc d ↦ elim d [
          | zero ↦ Err EmptyArea
          | suc e ↦ elim e [ zero ↦ Err EndOfHeader | suc g ↦ Err (FrameTooLong (get_or t.carried 0 0)) ]
        ]
      ]
    ]
  ]
]

back_is : (o : Outcome) → back (Tell.told o) ≡ o
back_is (Ok u) = refl
back_is (Err ChunkTooShort) = refl
back_is (Err (InvalidStartCode code)) = refl
back_is (Err (InvalidPartitionSize end n)) = refl
back_is (Err EmptyArea) = refl
back_is (Err EndOfHeader) = refl
back_is (Err (FrameTooLong n)) = refl

-- number and values are all that an outcome says
pub told_apart : (o o' : Outcome) → Tell.told o ≡ Tell.told o' → o ≡ o'
told_apart o o' e = sym (back_is o) ∙ ap back e ∙ back_is o'
