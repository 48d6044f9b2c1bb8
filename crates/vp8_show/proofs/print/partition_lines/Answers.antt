-- At each turn, what is put and the lines that are left make the whole; a start grows by less than 2^32 a turn.
use native.Mathlib.Omega.{arith}
use Rattle.vp8_show.proofs.Laws.{turn, end}
use Rattle.vp8_show.proofs.print.partition_lines.Goals as goal

pub loop-i-preserved : goal.loop-i-preserved
loop-i-preserved g c = let inv = c.loop-i.invariant in record {
  low = omega arith;
  whole = turn _ _ _ _ _ _ _ c.loop-i-test.true c.from-length.ensures c.partition_line.ensures inv.whole;
}

pub returns : goal.returns
returns g c = end _ _ _ _ _ c.loop-i-test.false c.loop-i.invariant.whole
