-- The numbers, then the probabilities: `then` of `Folds`.
use Rattle.bench_sum.proofs.Folds.{then}
use Rattle.bench_parse.proofs.header.Goals as goal

pub returns : goal.returns
returns c = then _ _ _ c.front.ensures (then _ _ _ c.back-fields.ensures c.probs.ensures)
