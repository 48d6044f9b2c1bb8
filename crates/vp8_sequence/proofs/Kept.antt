-- Demand 3 of running code: what `parse_frames` leaves and counts is that of the calls of `parse`, one after the other, so the laws of
-- answered calls hold of it. By its contract alone, with no premise on the record that is passed in.
use Prim.Native.Nat.{ℕ}
use mathlib.Core.Path.{◌≡◌, ap, sym, ◌∙◌}
use mathlib.Core.List.{List, map}
use mir.Val.{Val}
use denote.Laws.{Is}
use Rattle.vp8_records.specs.declared.Parser.{Parser}
use Rattle.vp8_records.specs.declared.Parsed.{Parsed}
use Rattle.vp8_records.specs.Start.{fresh}
use Rattle.vp8_records.specs.contracts.Parser as Held
use Rattle.rfc6386.specs.Decoder.{pick}
use Rattle.rfc6386.specs.Runs.{or}
use Rattle.rfc6386.specs.Call.{Asked}
use Rattle.rfc6386_history.specs.History.{any_cutter, writes, since, last}
use Rattle.rfc6386_history.specs.Kept.{kept}
use Rattle.rfc6386_history.specs.Answered.{Answered, ByValue}
use Rattle.rfc6386_history.proofs.History.{last_writer, last_writer_from}
use Rattle.rfc6386_history.proofs.Answered.{parse_answers}
use Rattle.rfc6386_history.proofs.Numbers.{held_only}
use Rattle.vp8_sequence.specs.Fold.{accepted, Folds}

-- whatever answers calls of `parse` give, one after the other: the record that is left, and how many are accepted
pub folds_answers : {p q s : Parser} {xs : List Asked} {n : ℕ} {rs : List Parsed} → Folds p xs q n → Answered Parsed ByValue p xs rs s
    → (q ≡ s) × (n ≡ accepted rs)
folds_answers f a = (f.state ∙ sym (parse_answers a).1, f.count ∙ ap accepted (sym (parse_answers a).0))

-- each of the 1,126 numbers is the one last written since the latest frame that cuts off the past, else that of the parser it began with
pub kept_by_code : {p q : Parser} {xs : List Asked} {n : ℕ} → Folds p xs q n → (i : ℕ)
    → kept q i ≡ or (last (map (λ x. writes x i) (since xs))) (kept (pick (any_cutter xs) fresh p) i)
kept_by_code {p} {xs = xs} f i = ap (λ (z : Parser). kept z i) f.state ∙ last_writer_from p xs i f.sized

-- else its starting value, if that parser was fresh
pub kept_from_fresh : {q : Parser} {xs : List Asked} {n : ℕ} → Folds fresh xs q n → (i : ℕ)
    → kept q i ≡ or (last (map (λ x. writes x i) (since xs))) (kept fresh i)
kept_from_fresh {xs = xs} f i = ap (λ (z : Parser). kept z i) f.state ∙ last_writer xs i

-- and of all records that code can hold no other has these numbers
pub no_other : {q : Parser} {xs : List Asked} {n : ℕ} → Folds fresh xs q n → (p : Parser) (vs : List Val) → Is Held.the_row p vs
    → ((i : ℕ) → kept p i ≡ or (last (map (λ x. writes x i) (since xs))) (kept fresh i)) → p ≡ q
no_other {xs = xs} f p vs held h = held_only p vs held xs h ∙ sym f.state
