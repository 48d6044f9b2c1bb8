use mathlib.Core.Path.{◌≡◌}
use lib.ListN.{take}
use Rattle.std.specs.List.{fold}
use Rattle.bench_sum.specs.Sum.{folded}
use Rattle.bench_sum.proofs.numbers.Given as goal

abbrev pub invariant-loop-n : goal.invariant-loop-n
invariant-loop-n g l = l.all ≡ fold (λ s n. folded s (g.T.Number.value n)) l.sum (take l.n-index l.numbers)
