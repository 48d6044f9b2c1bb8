use Rattle.bench_decoder.proofs.Turns.{Turn}
use Rattle.bench_decoder.proofs.flags.Given as goal

abbrev pub invariant-loop-i : goal.invariant-loop-i
invariant-loop-i l = Turn l.area l.table l.dec l.sum l.i
