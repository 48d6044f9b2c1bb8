-- The two picked numbers, then the modes: `then` of `Folds`.
use mathlib.Core.Path.{ap, ◌∙◌}
use mathlib.Core.List.{[], ◌∷◌}
use Rattle.bench_sum.specs.Sum.{folds}
use Rattle.bench_sum.proofs.Folds.{then}
use Rattle.bench_parse.proofs.probs.Goals as goal

pub returns : goal.returns
returns c = let is = c.numbers.ensures ∙ ap (folds _) (λ i. c.coefficient.ensures i ∷ c.motion.ensures i ∷ []) in
    then _ _ _ is (then _ _ _ c.numbers-2.ensures c.numbers-3.ensures)
