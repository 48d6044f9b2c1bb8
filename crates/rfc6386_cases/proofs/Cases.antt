-- Every case of the list is as the definition computes it in either mode, by computing. The second parser of the cases differs from the
-- fresh one in each of the 1,126 kept numbers: one computed test over the two runs of numbers, carried to each number by one lemma.
use Prim.Native.Nat.{ℕ, zero, suc, ◌<◌}
use native.Mathlib.Omega.{arith}
use mathlib.Core.Path.{◌≡◌, refl, ap, sym, ◌∙◌}
use mathlib.Core.Bool.{Bool, true, false, false≢true, not, ◌&&◌}
use mathlib.Core.List.{List, [], ◌∷◌, ◌++◌, map}
use lib.Dec.{eqb}
use lib.IntN.{ℤ, pos, negsuc}
use lib.ListN.{length, get_or, replicate}
use borrow.Author.Tests.{eq-eqb}
use Rattle.vp8_probs.specs.Tables.{coeff_default, mv_default}
use Rattle.vp8_records.specs.declared.Mode.{Mode}
use Rattle.vp8_records.specs.declared.Mode.TheVariants.{Rust, Standard}
use Rattle.vp8_records.specs.Layout.{rows, joined}
use Rattle.vp8_records.specs.Start.{fresh_coeffs, fresh_mv, fresh}
use Rattle.rfc6386.specs.Decoder.{number, start, double, normal, chosen, read_bool, whole, count_of, position, past}
use Rattle.rfc6386.specs.Frame.{key_chunk, chunk, body, decode}
use Rattle.rfc6386.specs.Call.{cleared, call}
use Rattle.rfc6386_history.specs.Kept.{numbers, kept}
use Rattle.rfc6386_cases.specs.Cases.{marked, bools_of, state_after, done, cases}

pub cases_hold : (md : Mode) → map (done md) cases ≡ cases
unfolding cases done bools_of state_after marked
    number start double normal chosen read_bool whole count_of position past key_chunk chunk body decode cleared call
cases_hold Rust = refl
cases_hold Standard = refl

-- whether two runs are as long as each other and differ in every number
abbrev same : ℤ → ℤ → Bool
same (pos m) (pos n) = eqb m n
same (pos m) (negsuc n) = false
same (negsuc m) (pos n) = false
same (negsuc m) (negsuc n) = eqb m n

unfoldable apart : List ℤ → List ℤ → Bool
apart [] [] = true
apart [] (y ∷ ys) = false
apart (x ∷ xs) [] = false
apart (x ∷ xs) (y ∷ ys) = not (same x y) && apart xs ys

same_self : (x : ℤ) → same x x ≡ true
same_self (pos n) = eq-eqb n n refl
same_self (negsuc n) = eq-eqb n n refl

both : (a b : Bool) → a && b ≡ true → (a ≡ true) × (b ≡ true)
both true b h = (refl, h)
both false b h = absurd (false≢true h)

unlike : (x y : ℤ) → not (same x y) ≡ true → x ≡ y → ⊥
unlike x y h e = false≢true (ap not (sym (ap (λ (z : ℤ). same x z) (sym e) ∙ same_self x)) ∙ h)

apart_at : (xs ys : List ℤ) (i : ℕ) → apart xs ys ≡ true → i < length xs → get_or xs i (pos 0) ≡ get_or ys i (pos 0) → ⊥
unfolding apart
apart_at [] ys i h l e = omega (arith, l)
apart_at (x ∷ xs) [] i h l e = false≢true h
apart_at (x ∷ xs) (y ∷ ys) zero h l e = unlike x y (both (not (same x y)) (apart xs ys) h).0 e
apart_at (x ∷ xs) (y ∷ ys) (suc i) h l e = apart_at xs ys i (both (not (same x y)) (apart xs ys) h).1 (omega (arith, l)) e

numbers_apart : (apart (numbers marked) (numbers fresh) ≡ true) × (length (numbers marked) ≡ 1126)
unfolding apart numbers marked fresh fresh_coeffs fresh_mv coeff_default mv_default rows joined
numbers_apart = (refl, refl)

-- its numbers, kind by kind in their order
pub marked_numbers : numbers marked
    ≡ replicate 4 (pos 1) ++ replicate 4 (pos 1) ++ replicate 4 (pos 2) ++ replicate 3 (pos 3)
    ++ replicate 2 (pos 1) ++ replicate 4 (pos 4) ++ replicate 4 (pos 5)
    ++ replicate 1056 (pos 6) ++ replicate 38 (pos 7) ++ replicate 4 (pos 8) ++ replicate 3 (pos 9)
unfolding numbers marked rows joined
marked_numbers = refl

pub marked_apart : (i : ℕ) → i < 1126 → kept marked i ≡ kept fresh i → ⊥
unfolding kept
marked_apart i l = apart_at (numbers marked) (numbers fresh) i numbers_apart.0 (omega (arith, l, numbers_apart.1))
