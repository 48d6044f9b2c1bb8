-- A turn reads one bool, and where it is 0 passes over those that the limit tells: the zeros so far are joined.
use native.Mathlib.Omega.{arith}
use Prim.Native.Nat.{ℕ}
use mathlib.Core.List.{List}
use mathlib.Core.Path.{◌≡◌, refl, ◌∙◌}
use lib.ListN.{length}
use Rattle.bool_decoder.specs.declared.BoolDecoder.{BoolDecoder}
use Rattle.bool_decoder.specs.Model.{Room}
use Rattle.bool_decoder.specs.Quiet.{ReadsAhead, here, past, hit, miss}
use Rattle.bool_decoder.proofs.Quiet.{rises, left, join_over}
use Rattle.bool_decoder.proofs.Steps.{held}
use Rattle.bool_decoder.proofs.BoolDecoder.seek.Goals as goal

-- all entries may be read
all : (t : List ℕ) (d : BoolDecoder) → Room d (length t) → ReadsAhead t 0 d
all t d room = record { order = omega arith; room = omega (arith, room) }

pub loop-i-init : goal.loop-i-init
loop-i-init c = record { within = omega arith; quiet = here; area = refl }

pub read_bit-requires : goal.read_bit-requires
read_bit-requires c = let inv = c.loop-i.invariant in
    let room = (left {e = c.loop-i.self} inv.quiet inv.within (all c.args.table.now c.args.self.now c.requires)).room in
    omega (arith, room, c.loop-i-test.true)

pub returns-then-read_bit : goal.returns-then-read_bit
returns-then-read_bit c = let inv = c.loop-i.invariant in
    let r = c.read_bit.ensures in
    record { finds = hit c.loop-i-test.true inv.quiet (rw c.if-read_bit.true at (held inv.area r)); area = r.over ∙ inv.area }

pub pass-i-requires : goal.pass-i-requires
pass-i-requires c = let inv = c.loop-i.invariant in
    let zero = rw c.if-read_bit.false at (held inv.area c.read_bit.ensures) in
    left (past inv.quiet zero) (omega (arith, c.loop-i-test.true)) (all c.args.table.now c.args.self.now c.requires)

pub loop-i-smaller : goal.loop-i-smaller
loop-i-smaller c = omega (arith, rises c.pass-i.ensures.quiet, c.loop-i-test.true)

pub loop-i-preserved : goal.loop-i-preserved
loop-i-preserved c = let inv = c.loop-i.invariant in
    let r = c.read_bit.ensures in
    let p = c.pass-i.ensures in
    let zero = rw c.if-read_bit.false at (held inv.area r) in
    record {
      within = p.within;
      quiet = join_over (r.over ∙ inv.area) (past inv.quiet zero) p.quiet;
      area = p.area ∙ r.over ∙ inv.area;
    }

pub returns : goal.returns
returns c = let l = c.loop-i in
    let all : l.i ≡ length c.args.table.now = omega (arith, l.invariant.within, c.loop-i-test.false) in
    record { finds = miss (rw all at l.invariant.quiet); area = l.invariant.area }
