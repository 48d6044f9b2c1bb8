-- Sequences of calls that met a contract have one solution, by induction over the calls; so demand 3 holds of the answers of running code,
-- for each contract that fixes one answer and leaves what `call` does.
use Prim.Native.Nat.{ℕ}
use mathlib.Core.Path.{◌≡◌, refl, sym, ap, ap₂, ◌∙◌}
use mathlib.Core.Bool.{true}
use mathlib.Core.List.{List, [], ◌∷◌, ◌++◌, map}
use Rattle.vp8_records.specs.declared.Parser.{Parser}
use Rattle.vp8_records.specs.declared.Parsed.{Parsed}
use Rattle.vp8_records.specs.Start.{fresh}
use Rattle.vp8_records.specs.Shape.{Sized}
use Rattle.rfc6386.specs.Decoder.{pick}
use Rattle.rfc6386.specs.Runs.{or}
use Rattle.rfc6386.specs.Call.{Asked, called, calls, after}
use Rattle.rfc6386_history.specs.Kept.{kept}
use Rattle.rfc6386_history.specs.History.{cutter, any_cutter, since, before, writes, last}
use Rattle.rfc6386_history.specs.Answered.{Answered, stop, next, ByValue, shows}
use Rattle.rfc6386_history.proofs.Step.{forgets}
use Rattle.rfc6386_history.proofs.History.{shows_cut, calls_are, last_writer, last_writer_from}

-- a contract that admits one answer, g, and leaves what the definition does
pub record Fixes {A : Type 0} (C : Parser → Asked → A → Parser → Type 0) (g : Parser → Asked → A) : Type 0 where
  pub one : (p : Parser) (x : Asked) (a : A) (q : Parser) → C p x a q → (a ≡ g p x) × (q ≡ (called p x).parser)
  pub meets : (p : Parser) (x : Asked) → C p x (g p x) (called p x).parser

module _ {A : Type 0} {C : Parser → Asked → A → Parser → Type 0} {g : Parser → Asked → A} (fixes : Fixes C g) where
  -- the answers, and the record that is left
  pub answers_are : {p s : Parser} {xs : List Asked} {rs : List A} → Answered A C p xs rs s → (rs ≡ shows g p xs) × (s ≡ after p xs)
  unfolding shows after
  answers_are stop = (refl, refl)
  answers_are {p} (next {q = q} {x = x} {xs} {a} c r) =
      let e = fixes.one p x a q c in
      let ih = answers_are r in (
        ap₂ {C = List A} (λ r rs. r ∷ rs) e.0 (ih.0 ∙ ap (λ (z : Parser). shows g z xs) e.1),
        ih.1 ∙ ap (λ (z : Parser). after z xs) e.1,
      )

  -- there are such answers
  pub are_answered : (p : Parser) (xs : List Asked) → Answered A C p xs (shows g p xs) (after p xs)
  unfolding shows after
  are_answered p [] = stop
  are_answered p (x ∷ xs) = next (fixes.meets p x) (are_answered (called p x).parser xs)

  -- the cut, of three runs of code: all calls; those before the latest cutter; and those since, over a fresh parser
  pub answered_cut : ((p q : Parser) (x : Asked) → cutter x.frame ≡ true → g p x ≡ g q x)
      → {p s t u : Parser} {xs : List Asked} {rs ss ts : List A}
      → Answered A C p xs rs s → Answered A C p (before xs) ss t → Answered A C (pick (any_cutter xs) fresh p) (since xs) ts u
      → rs ≡ ss ++ ts
  answered_cut same {p} {xs = xs} a b c =
      (answers_are a).0 ∙ shows_cut g same p xs ∙ ap₂ {C = List A} (λ x y. x ++ y) (sym (answers_are b).0) (sym (answers_are c).0)

  -- the last writer, of the record that code holds after the calls
  pub answered_keeps : {s : Parser} {xs : List Asked} {rs : List A} → Answered A C fresh xs rs s → (i : ℕ)
      → kept s i ≡ or (last (map (λ f. writes f i) (since xs))) (kept fresh i)
  answered_keeps {xs = xs} a i = ap (λ (z : Parser). kept z i) (answers_are a).1 ∙ last_writer xs i

  pub answered_keeps_from : {p s : Parser} {xs : List Asked} {rs : List A} → Sized p → Answered A C p xs rs s → (i : ℕ)
      → kept s i ≡ or (last (map (λ f. writes f i) (since xs))) (kept (pick (any_cutter xs) fresh p) i)
  answered_keeps_from {p} {xs = xs} z a i = ap (λ (y : Parser). kept y i) (answers_are a).1 ∙ last_writer_from p xs i z

-- the contract of `parse` is one
pub by_value : Fixes ByValue called
by_value = record { one = λ p x a q c. (c.0, c.1 ∙ ap (λ (r : Parsed). r.parser) c.0); meets = λ p x. (refl, refl) }

-- so the answers of calls of `parse`, one after the other, are `calls`, and the record that is left is `after`
pub parse_answers : {p s : Parser} {xs : List Asked} {rs : List Parsed} → Answered Parsed ByValue p xs rs s
    → (rs ≡ calls p xs) × (s ≡ after p xs)
parse_answers {p} {xs = xs} a = ((answers_are by_value a).0 ∙ sym (calls_are p xs), (answers_are by_value a).1)

pub parse_answered : (p : Parser) (xs : List Asked) → Answered Parsed ByValue p xs (calls p xs) (after p xs)
parse_answered p xs = rw (calls_are p xs) (are_answered by_value p xs)

-- and demand 3 holds of them
pub parse_cut : {p s t u : Parser} {xs : List Asked} {rs ss ts : List Parsed}
    → Answered Parsed ByValue p xs rs s → Answered Parsed ByValue p (before xs) ss t
    → Answered Parsed ByValue (pick (any_cutter xs) fresh p) (since xs) ts u → rs ≡ ss ++ ts
parse_cut = answered_cut by_value forgets

pub parse_keeps : {s : Parser} {xs : List Asked} {rs : List Parsed} → Answered Parsed ByValue fresh xs rs s → (i : ℕ)
    → kept s i ≡ or (last (map (λ f. writes f i) (since xs))) (kept fresh i)
parse_keeps = answered_keeps by_value
