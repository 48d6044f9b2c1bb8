use Prim.Native.Nat.{◌-◌}
use Rattle.bool_slow.proofs.Bytes.{Going}
use Rattle.bool_slow.proofs.SlowDecoder.read_bool.Given as goal

abbrev pub invariant-loop-d : goal.invariant-loop-d
invariant-loop-d l = Going l.self.area.now l.initial.d l.d

abbrev pub decreases-loop-d : goal.decreases-loop-d
decreases-loop-d l = 128 - l.d.range
