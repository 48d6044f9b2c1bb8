-- One lent call after the other, each over what the one before left in the record: the contract of `parse_frame` fixes one answer, so the
-- laws of answered calls hold of it.
use Prim.Native.Nat.{ℕ}
use mathlib.Core.Path.{◌≡◌, refl, ap}
use mathlib.Core.Bool.{true}
use mathlib.Core.List.{List, ◌++◌, map}
use mir.Val.{Val}
use denote.Laws.{Is}
use Rattle.vp8_records.specs.declared.Parser.{Parser}
use Rattle.vp8_records.specs.Start.{fresh}
use Rattle.vp8_records.specs.contracts.Parser as Held
use Rattle.vp8_records.proofs.Typed.{typed_sized}
use Rattle.rfc6386.specs.Decoder.{pick}
use Rattle.rfc6386.specs.Runs.{or}
use Rattle.rfc6386.specs.Call.{Asked, after}
use Rattle.rfc6386_history.specs.History.{cutter, any_cutter, since, before, writes, last}
use Rattle.rfc6386_history.specs.Kept.{kept}
use Rattle.rfc6386_history.specs.Answered.{Answered, shows}
use Rattle.rfc6386_history.proofs.Step.{forgets}
use Rattle.rfc6386_history.proofs.Answered.{Fixes, answers_are, are_answered, answered_cut, answered_keeps, answered_keeps_from}
use Rattle.vp8_frame.specs.View.{viewed, Had, Lent, had}

lent : Fixes Lent had
lent = record {
  one = λ p x a q c. (λ i. record { outcome = c.says i; header = c.reads i; part = c.refers i }, c.leaves);
  meets = λ p x. record { says = refl; reads = refl; refers = refl; leaves = refl };
}

forgets_had : (p q : Parser) (x : Asked) → cutter x.frame ≡ true → had p x ≡ had q x
forgets_had p q x h =
    ap {B = Had} (λ r. record { outcome = r.outcome; header = r.header; part = viewed r.outcome x.frame }) (forgets p q x h)

-- the answers are the definition's, and so is the record that is left
pub lent_answers : {p s : Parser} {xs : List Asked} {rs : List Had} → Answered Had Lent p xs rs s
    → (rs ≡ shows had p xs) × (s ≡ after p xs)
lent_answers = answers_are lent

pub lent_answered : (p : Parser) (xs : List Asked) → Answered Had Lent p xs (shows had p xs) (after p xs)
lent_answered = are_answered lent

-- demand 3's cut: all calls; those before the latest frame that cuts off the past; and those since, over a fresh parser
pub lent_cut : {p s t u : Parser} {xs : List Asked} {rs ss ts : List Had} → Answered Had Lent p xs rs s
    → Answered Had Lent p (before xs) ss t → Answered Had Lent (pick (any_cutter xs) fresh p) (since xs) ts u → rs ≡ ss ++ ts
lent_cut = answered_cut lent forgets_had

-- and its last writer, of what the record holds afterwards
pub lent_keeps : {s : Parser} {xs : List Asked} {rs : List Had} → Answered Had Lent fresh xs rs s → (i : ℕ)
    → kept s i ≡ or (last (map (λ f. writes f i) (since xs))) (kept fresh i)
lent_keeps = answered_keeps lent

-- over any record that code can lend
pub lent_keeps_from : {p s : Parser} {xs : List Asked} {rs : List Had} (vs : List Val) → Is Held.the_row p vs
    → Answered Had Lent p xs rs s → (i : ℕ)
    → kept s i ≡ or (last (map (λ f. writes f i) (since xs))) (kept (pick (any_cutter xs) fresh p) i)
lent_keeps_from {p} vs held a = answered_keeps_from lent (typed_sized p vs held) a
