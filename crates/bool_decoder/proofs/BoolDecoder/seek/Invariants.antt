use Prim.Native.Nat.{◌-◌}
use lib.ListN.{length}
use Rattle.bool_decoder.specs.Quiet.{Skips}
use Rattle.bool_decoder.proofs.BoolDecoder.seek.Given as goal

abbrev pub invariant-loop-i : goal.invariant-loop-i
invariant-loop-i l = Skips l.table 0 l.fn.self l.i l.self

abbrev pub decreases-loop-i : goal.decreases-loop-i
decreases-loop-i l = length l.table - l.i
