-- Laws of what is written over a run, by induction over it.
use Prim.Native.Nat.{ℕ, zero, suc, ◌≤◌}
use native.Mathlib.Omega.{arith}
use mathlib.Core.Path.{◌≡◌, refl, ap}
use mathlib.Core.Option
use mathlib.Core.Option.{Option, none, some}
use mathlib.Core.List.{List, [], ◌∷◌, map}
use lib.ListN.{length, get_or}
use Rattle.rfc6386.specs.Runs.{or, over}
use Rattle.rfc6386_history.specs.History.{fit, last}

pub length_fit : {A : Type 0} (n : ℕ) (us : List (Option A)) → length (fit n us) ≡ n
unfolding fit
length_fit zero us = refl
length_fit (suc n) [] = ap suc (length_fit n [])
length_fit (suc n) (u ∷ us) = ap suc (length_fit n us)

-- over a run of n, n of what is written do
pub over_fit : {A : Type 0} (n : ℕ) (us : List (Option A)) (xs : List A) → length xs ≡ n → over (fit n us) xs ≡ over us xs
unfolding over fit
over_fit zero [] xs h = refl
over_fit zero (u ∷ us) [] h = refl
over_fit zero (u ∷ us) (x ∷ xs) h = absurd (omega (arith, h))
over_fit (suc n) [] [] h = refl
over_fit (suc n) [] (x ∷ xs) h = ap (λ r. x ∷ r) (over_fit n [] xs (omega (arith, h)))
over_fit (suc n) (u ∷ us) [] h = refl
over_fit (suc n) (u ∷ us) (x ∷ xs) h = ap (λ r. or u x ∷ r) (over_fit n us xs (omega (arith, h)))

pub over_map : {A B : Type 0} (f : A → B) (us : List (Option A)) (xs : List A)
    → over (map (Option.map f) us) (map f xs) ≡ map f (over us xs)
unfolding over
over_map f [] xs = refl
over_map f (u ∷ us) [] = refl
over_map f (none ∷ us) (x ∷ xs) = ap (λ r. f x ∷ r) (over_map f us xs)
over_map f (some y ∷ us) (x ∷ xs) = ap (λ r. f y ∷ r) (over_map f us xs)

pub get_d_over : {A : Type 0} (us : List (Option A)) (xs : List A) (i : ℕ) (d : A) → length us ≤ length xs
    → get_or (over us xs) i d ≡ or (get_or us i none) (get_or xs i d)
unfolding over
get_d_over [] xs i d h = refl
get_d_over (u ∷ us) [] i d h = absurd (omega (arith, h))
get_d_over (u ∷ us) (x ∷ xs) zero d h = refl
get_d_over (u ∷ us) (x ∷ xs) (suc i) d h = get_d_over us xs i d (omega (arith, h))

-- the last of all is the last of the later ones, or else the first
pub or_last : {A : Type 0} (u : Option A) (us : List (Option A)) (x : A) → or (last (u ∷ us)) x ≡ or (last us) (or u x)
unfolding last
or_last none us x = refl
or_last (some y) us x = refl
