-- The flags, then the values: `then` of `Folds`.
use mathlib.Core.Path.{ap, ◌∙◌}
use mathlib.Core.List.{[], ◌∷◌}
use Rattle.bench_sum.specs.Sum.{folds}
use Rattle.bench_sum.proofs.Folds.{then}
use Rattle.bench_parse.proofs.segmentation.Goals as goal

pub returns : goal.returns
returns c = let flags =
    c.numbers.ensures
    ∙ ap (folds _) (λ i. c.bit.ensures i ∷ c.bit-2.ensures i ∷ c.bit-3.ensures i ∷ c.bit-4.ensures i ∷ []) in
    let levels = then _ _ _ c.numbers-signed.ensures c.numbers-3.ensures in
    then _ _ _ flags (then _ _ _ c.numbers-2.ensures levels)
