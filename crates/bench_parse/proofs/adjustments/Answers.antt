-- The flags, then the deltas: `then` of `Folds`.
use mathlib.Core.Path.{ap, ◌∙◌}
use mathlib.Core.List.{[], ◌∷◌}
use Rattle.bench_sum.specs.Sum.{folds}
use Rattle.bench_sum.proofs.Folds.{then}
use Rattle.bench_parse.proofs.adjustments.Goals as goal

pub returns : goal.returns
returns c = let flags = c.numbers.ensures ∙ ap (folds _) (λ i. c.bit.ensures i ∷ c.bit-2.ensures i ∷ []) in
    then _ _ _ flags (then _ _ _ c.numbers-2.ensures c.numbers-3.ensures)
