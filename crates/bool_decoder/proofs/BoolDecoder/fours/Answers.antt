-- A turn is four zeros, each told by the limit, since the last of them is and none is below it: `goes` four times.
use Prim.Native.Nat.{◌+◌, ◌≤◌}
use native.Mathlib.Omega.{arith}
use mathlib.Core.Path.{refl}
use lib.ListN.{length}
use Rattle.bool_decoder.proofs.Over.{limit_low}
use Rattle.bool_decoder.proofs.Quiet.{ahead, starts, goes, rises, over_of}
use Rattle.bool_decoder.proofs.BoolDecoder.fours.Goals as goal

pub overflow_sub-bound : goal.overflow_sub-bound
overflow_sub-bound c = let d = c.args.self.now in
    omega (arith, d.over.limit, limit_low d.window.value)

pub loop-i-init : goal.loop-i-init
loop-i-init c = let o = c.args.self.now.over in
    (c.requires.order, omega (arith, o.high), starts _ o.low)

pub loop-i-preserved : goal.loop-i-preserved
loop-i-preserved c = let d = c.args.self.now.window in
    let may = ahead c.args.self.now c.requires in
    let inv = c.loop-i.invariant in
    let left : c.loop-i.i + 4 ≤ length c.args.table.now = omega (arith, c.loop-i-test.true) in
    let r1 = c.step-a.ensures in
    let r2 = c.step-b.ensures in
    let r3 = c.step-c.ensures in
    let r4 = c.step-d.ensures in
    let t4 : d.limit ≤ c.step-d.result + 1 = omega arith in
    let t3 : d.limit ≤ c.step-c.result + 1 = omega (arith, t4, r4.1) in
    let t2 : d.limit ≤ c.step-b.result + 1 = omega (arith, t3, r3.1) in
    let t1 : d.limit ≤ c.step-a.result + 1 = omega (arith, t2, r2.1) in
    let i = c.loop-i.i in
    let q1 = goes d (i + 1) _ _ may (omega (arith, left)) refl inv.2 r1.0 r1.1 t1 in
    let q2 = goes d (i + 2) _ _ may (omega (arith, left)) (omega arith) q1 r2.0 r2.1 t2 in
    let q3 = goes d (i + 3) _ _ may (omega (arith, left)) (omega arith) q2 r3.0 r3.1 t3 in (
      omega (arith, left),
      omega (arith, inv.1, r1.1, r2.1, r3.1, r4.1),
      goes d _ _ _ may (omega (arith, left)) (omega arith) q3 r4.0 r4.1 t4,
    )

pub overflow_sub-self : goal.overflow_sub-self
overflow_sub-self c = rises c.loop-i.invariant.2

pub invariant_of-self : goal.invariant_of-self
invariant_of-self c = record { over = over_of c.args.self.now.over c.loop-i.invariant.2 }

pub returns : goal.returns
returns c = record { within = c.loop-i.invariant.0; quiet = c.loop-i.invariant.2; area = refl }
