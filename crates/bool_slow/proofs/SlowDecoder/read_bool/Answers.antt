-- The choice is that of `picked_one` or `picked_zero`, by the arm that was taken; where the range is back, `ended`. A turn of the loop
-- is `stays` or `fetches`.
use mathlib.Core.Path.{refl}
use borrow.Author.Tests.{le-leb, lt-leb}
use Rattle.bool_slow.proofs.Bytes.{picked_one, picked_zero, begin, ended}
use Rattle.bool_slow.proofs.Steps.{good, holder}
use Rattle.bool_slow.proofs.SlowDecoder.read_bool.Goals as goal
use Rattle.bool_slow.proofs.SlowDecoder.read_bool.Goals.{then-bit, else-bit}

pub loop-d-init : goal.loop-d-init
loop-d-init c = let p = c.args.prob in
    let g = good c.args.self.now c.requires in
    let byte = c.ranges.prob.fits in
    begin g
    (elim c.if-bit.branch [
      | then-bit w ↦ picked_one g p byte refl (le-leb _ _ w.if-bit.true) w.d-is
      | else-bit w ↦ picked_zero g p byte refl (lt-leb _ _ w.if-bit.false) w.d-is
    ])

pub returns : goal.returns
returns c = let p = c.args.prob in
    let g = good c.args.self.now c.requires in
    let byte = c.ranges.prob.fits in
    holder refl (ended g
    (elim c.if-bit.branch [
      | then-bit w ↦ picked_one g p byte refl (le-leb _ _ w.if-bit.true) w.d-is
      | else-bit w ↦ picked_zero g p byte refl (lt-leb _ _ w.if-bit.false) w.d-is
    ])
    c.loop-d.invariant c.loop-d-test.false)
