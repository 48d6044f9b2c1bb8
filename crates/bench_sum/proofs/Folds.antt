-- Two runs of numbers one after the other are one, and numbers go in by their values: the library's laws of a fold.
use Prim.Native.Nat.{ℕ}
use mathlib.Core.Path.{◌≡◌, ap, sym, ◌∙◌}
use mathlib.Core.List.{List, ◌++◌, map}
use Rattle.std.specs.List.{fold}
use Rattle.std.proofs.lemmas.List.Sums.{fold-append}
use Rattle.std.proofs.lemmas.List.Folds.{fold-map}
use Rattle.bench_sum.specs.Sum.{folded, folds}

-- a run, then another
pub then : (sum : ℕ) {a b : ℕ} (xs ys : List ℕ) → a ≡ folds sum xs → b ≡ folds a ys → b ≡ folds sum (xs ++ ys)
unfolding folds
then sum xs ys p q = q ∙ ap (λ (k : ℕ). folds k ys) p ∙ sym (fold-append folded sum xs ys)

pub by_values : {X : Type 0} (value : X → ℕ) (sum : ℕ) (xs : List X) {ns : List ℕ} → map value xs ≡ ns
    → fold (λ s n. folded s (value n)) sum xs ≡ folds sum ns
unfolding folds
by_values value sum xs e = sym (fold-map folded value sum xs) ∙ ap (fold folded sum) e
