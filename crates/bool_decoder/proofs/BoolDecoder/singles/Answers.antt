-- A turn is one 0 that the limit tells: `goes`.
use Prim.Native.Nat.{◌+◌, ◌≤◌}
use native.Mathlib.Omega.{arith}
use mathlib.Core.Path.{refl}
use Rattle.bool_decoder.proofs.Over.{limit_low}
use Rattle.bool_decoder.proofs.Quiet.{ahead, starts, goes, rises, over_of}
use Rattle.bool_decoder.proofs.BoolDecoder.singles.Goals as goal

pub overflow_sub-bound : goal.overflow_sub-bound
overflow_sub-bound c = let d = c.args.self.now in
    omega (arith, d.over.limit, limit_low d.window.value)

pub loop-i-init : goal.loop-i-init
loop-i-init c = let o = c.args.self.now.over in
    (c.requires.order, omega (arith, o.high), starts _ o.low)

pub loop-i-preserved : goal.loop-i-preserved
loop-i-preserved c = let d = c.args.self.now in
    let inv = c.loop-i.invariant in
    let lt = c.loop-i-test.true in
    let r = c.step-next.ensures in
    let tells : d.window.limit ≤ c.step-next.result + 1 = omega (arith, c.if-next-bound.false) in
    (omega (arith, lt), omega (arith, inv.1, r.1), goes d.window _ _ _ (ahead d c.requires) lt refl inv.2 r.0 r.1 tells)

pub overflow_sub-self : goal.overflow_sub-self
overflow_sub-self c = rises c.loop-i.invariant.2

pub invariant_of-self : goal.invariant_of-self
invariant_of-self c = record { over = over_of c.args.self.now.over c.loop-i.invariant.2 }

pub returns : goal.returns
returns c = record { within = c.loop-i.invariant.0; quiet = c.loop-i.invariant.2; area = refl }
