-- The sizes that are coded, one more at a time, and the array that holds them. By induction on the sizes.
use Prim.Native.Nat.{ℕ, zero, suc, ◌+◌, ◌*◌, ◌≤◌, ◌<◌}
use native.Mathlib.Nat.{add-zero, mul-suc}
use native.Mathlib.Numerals.{add-one}
use native.Mathlib.Omega.{arith}
use mathlib.Core.Path.{◌≡◌, refl, ap, sym, ◌∙◌}
use mathlib.Core.List.{List, [], ◌∷◌, ◌++◌}
use lib.ListN.{length, set, take, replicate}
use Rattle.rfc6386.specs.Bytes.{le3}
use Rattle.rfc6386.specs.Frame.{coded_sizes, sum}
use Rattle.rfc6386.proofs.Fills.{sum_append}
use Rattle.vp8_parser.specs.Answers.{padded}

-- one size more at the end
pub coded_more : (i : ℕ) (area : List ℕ) (at : ℕ) → coded_sizes (i + 1) area at ≡ coded_sizes i area at ++ (le3 area (at + 3 * i) ∷ [])
unfolding coded_sizes
coded_more zero area at = ap (λ (k : ℕ). le3 area k ∷ []) (sym (add-zero at))
coded_more (suc i) area at =
    let e : at + 3 + 3 * i ≡ at + 3 * suc i = omega (arith, mul-suc 3 i) in
    ap (λ (k : ℕ). coded_sizes k area at) (add-one (suc i))
    ∙ ap (λ (l : List ℕ). le3 area at ∷ l) (ap (λ (k : ℕ). coded_sizes k area (at + 3)) (sym (add-one i)) ∙ coded_more i area (at + 3))
    ∙ ap (λ (k : ℕ). le3 area at ∷ (coded_sizes i area (at + 3) ++ (le3 area k ∷ []))) e

pub sum_more : (xs : List ℕ) (x : ℕ) → sum (xs ++ (x ∷ [])) ≡ sum xs + x
unfolding sum
sum_more xs x = sum_append xs (x ∷ []) ∙ omega arith

-- zeros enough are enough
zeros : (n m : ℕ) → n ≤ m → take {A = ℕ} n (replicate (suc m) 0) ≡ take n (replicate m 0)
zeros zero m h = refl
zeros (suc n) zero h = absurd (omega arith)
zeros (suc n) (suc m) h = ap (λ (l : List ℕ). 0 ∷ l) (zeros n m (omega arith))

-- a number after those that are there already
set_next : (n m : ℕ) (xs : List ℕ) (v : ℕ) → length xs < n → n ≤ m
    → set (take n (xs ++ replicate m 0)) (length xs) v ≡ take n ((xs ++ (v ∷ [])) ++ replicate m 0)
set_next zero m xs v h g = absurd (omega arith)
set_next (suc n) zero xs v h g = absurd (omega arith)
set_next (suc n) (suc m) [] v h g = ap (λ (l : List ℕ). v ∷ l) (sym (zeros n m (omega arith)))
set_next (suc n) (suc m) (x ∷ xs) v h g = ap (λ (l : List ℕ). x ∷ l) (set_next n (suc m) xs v (omega arith) (omega arith))

pub padded_more : (xs : List ℕ) (i v : ℕ) → length xs ≡ i → i < 8 → set (padded xs) i v ≡ padded (xs ++ (v ∷ []))
padded_more xs i v e h = rw (← e) (set_next 8 8 xs v (omega (arith, e)) (omega arith))
