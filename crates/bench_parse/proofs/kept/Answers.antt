-- The two records, then the probabilities: `then` of `Folds`.
use Rattle.bench_sum.proofs.Folds.{then}
use Rattle.bench_parse.proofs.kept.Goals as goal

pub returns : goal.returns
returns c = then _ _ _ c.segmentation.ensures (then _ _ _ c.adjustments-records.ensures c.probs.ensures)
