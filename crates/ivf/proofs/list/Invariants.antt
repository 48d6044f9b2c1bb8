use Prim.Native.Nat.{◌-◌}
use lib.ListN.{length}
use Rattle.ivf.proofs.Turns.{Turn}
use Rattle.ivf.proofs.list.Given as goal

abbrev pub invariant-loop-size : goal.invariant-loop-size
invariant-loop-size l = Turn l.file l.initial.offsets l.initial.lengths l.room l.offsets l.lengths l.at l.count

abbrev pub decreases-loop-size : goal.decreases-loop-size
decreases-loop-size l = length l.file - l.at
