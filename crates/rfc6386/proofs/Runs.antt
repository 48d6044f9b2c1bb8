-- Laws of what is written over a run. By induction on the run.
use Prim.Native.Nat.{suc}
use native.Mathlib.Omega.{arith}
use mathlib.Core.Path.{◌≡◌, refl, ap}
use mathlib.Core.Option.{Option}
use mathlib.Core.List.{List, [], ◌∷◌, ◌++◌}
use lib.ListN.{length}
use Rattle.rfc6386.specs.Runs.{or, over}

pub length_over : {A : Type 0} (us : List (Option A)) (xs : List A) → length (over us xs) ≡ length xs
unfolding over
length_over [] xs = refl
length_over (u ∷ us) [] = refl
length_over (u ∷ us) (x ∷ xs) = ap suc (length_over us xs)

pub over_append : {A : Type 0} (us vs : List (Option A)) (xs ys : List A) → length xs ≡ length us
    → over (us ++ vs) (xs ++ ys) ≡ over us xs ++ over vs ys
unfolding over
over_append [] vs [] ys h = refl
over_append [] vs (x ∷ xs) ys h = absurd (omega (arith, h))
over_append (u ∷ us) vs [] ys h = absurd (omega (arith, h))
over_append (u ∷ us) vs (x ∷ xs) ys h = ap (λ r. or u x ∷ r) (over_append us vs xs ys (omega (arith, h)))
