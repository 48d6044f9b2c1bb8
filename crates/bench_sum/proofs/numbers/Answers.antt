-- All of the numbers are in, and their values are the list's.
use mathlib.Core.Path.{ap, ◌∙◌}
use Rattle.std.proofs.lemmas.List.{take_all}
use Rattle.std.specs.List.{fold}
use Rattle.bench_sum.specs.Sum.{folded}
use Rattle.bench_sum.proofs.Folds.{by_values}
use Rattle.bench_sum.proofs.numbers.Goals as goal

pub returns : goal.returns
returns g c = let value = g.T.Number.value in
    c.loop-n.invariant
    ∙ ap (fold (λ s n. folded s (value n)) c.args.sum) (take_all c.loop-n.n-index c.args.numbers.now c.loop-n-test.false)
    ∙ by_values value c.args.sum c.args.numbers.now (g.met.T.Number.each c.args.numbers.now)
