-- The definition's comparison is the library's: byte by byte.
use Prim.Native.Nat.{ℕ}
use mathlib.Core.Path.{◌≡◌, refl, ap, ◌∙◌}
use mathlib.Core.Bool.{Bool, true, false, ◌&&◌}
use mathlib.Core.List.{List, [], ◌∷◌}
use native.Mathlib.Omega.{arith}
use lib.Dec.{eqb}
use Rattle.std.specs.List.{starts_with}
use Rattle.std.proofs.lemmas.Bool.Decides.{nat_tests}
use Rattle.rfc6386.specs.Decoder.{pick}
use Rattle.ivf.specs.Ivf.{starts}

picked : (b : Bool) {p q : Bool} → p ≡ q → (b && p) ≡ pick b q false
picked true e = e
picked false e = refl

turned : (x y : ℕ) → eqb x y ≡ eqb y x
turned x y = grind (arith, nat_tests)

pub starts_lem : (xs ys : List ℕ) → starts_with eqb ys xs ≡ starts xs ys
unfolding starts
starts_lem [] ys = refl
starts_lem (x ∷ xs) [] = refl
starts_lem (x ∷ xs) (y ∷ ys) = picked (eqb x y) (starts_lem xs ys) ∙ ap (λ (b : Bool). pick b (starts xs ys) false) (turned x y)
