-- The header, then what is kept, after the number of the outcome: `then` of `Folds`.
use mathlib.Core.Path.{◌∙◌}
use Rattle.bench_parse.specs.Numbers.{sum_of}
use Rattle.bench_sum.proofs.Folds.{then}
use Rattle.bench_parse.proofs.number.Goals as goal

pub returns : goal.returns
unfolding sum_of
returns c = then _ _ _ (rw (c.from-first.ensures ∙ c.number.ensures) at c.header.ensures) c.kept.ensures
