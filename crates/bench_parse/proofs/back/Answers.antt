-- Each array is what its call gives; one after the other by `then` of `Folds`.
use mathlib.Core.Path.{ap, ◌∙◌}
use lib.ListN.{take}
use Rattle.bench_sum.specs.Sum.{folds}
use Rattle.bench_sum.proofs.Folds.{then}
use Rattle.bench_parse.proofs.back.Goals as goal

pub returns : goal.returns
returns c = let flags = c.numbers.ensures ∙ ap (folds _) c.flags-flags.ensures in
    let tail = c.end.ensures ∙ ap (λ t. folds c.numbers.result (take 4 t)) c.tail-tail.ensures in
    then _ _ _ flags tail
