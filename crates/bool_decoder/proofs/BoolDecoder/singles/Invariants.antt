use Prim.Native.Nat.{◌-◌, ◌≤◌, ◌<◌}
use lib.ListN.{length}
use Rattle.bool_decoder.specs.Quiet.{narrowed, Quiet}
use Rattle.bool_decoder.proofs.BoolDecoder.singles.Given as goal

abbrev pub invariant-loop-i : goal.invariant-loop-i
invariant-loop-i l =
    let w = l.fn.self.window in
    (l.i ≤ length l.table) × (l.low < 256) × Quiet l.fn.self.area.now l.table l.from w l.i (narrowed w l.low (l.i - l.from))

abbrev pub decreases-loop-i : goal.decreases-loop-i
decreases-loop-i l = length l.table - l.i
