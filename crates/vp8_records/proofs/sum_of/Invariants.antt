use Rattle.std.proofs.Common.{◌≡◌, ◌*◌, ◌^◌, ◌≤◌, take, sum}
use Rattle.vp8_records.proofs.sum_of.Given as goal

abbrev pub invariant-loop-size : goal.invariant-loop-size
invariant-loop-size l = (l.sum ≡ sum (take l.size-index l.size-items)) × (l.sum ≤ l.size-index * 2 ^ 32)
