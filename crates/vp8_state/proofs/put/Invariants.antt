use mathlib.Core.Path.{◌≡◌}
use lib.Seq.{paste}
use Rattle.vp8_state.proofs.put.Given as goal

abbrev pub invariant-loop-i : goal.invariant-loop-i
invariant-loop-i l = l.block ≡ paste l.initial.block l.at l.bytes l.i
