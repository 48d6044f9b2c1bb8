-- Each array is what its call gives; one after the other by `then` of `Folds`.
use mathlib.Core.Path.{ap, ◌∙◌}
use Rattle.bench_sum.specs.Sum.{folds}
use Rattle.bench_sum.proofs.Folds.{then}
use Rattle.bench_parse.proofs.front.Goals as goal

pub returns : goal.returns
returns c = let shape = c.numbers.ensures ∙ ap (folds _) c.shape-shape.ensures in
    let quant = c.numbers-3.ensures ∙ ap (folds _) c.quantizers-quantizers.ensures in
    then _ _ _ shape (then _ _ _ c.numbers-2.ensures quant)
