-- The loop over nineteen numbers: `Each`, and the definition's reads by `leaf`.
use Prim.Native.Nat.{ℕ}
use native.Mathlib.Omega.{arith}
use native.Mathlib.Nat.{zero-add}
use mathlib.Core.Path.{◌≡◌, refl}
use lib.ListN.{length, get_or}
use borrow.Author.Rules.{rules}
use Rattle.bool_decoder.proofs.Each.{begin, room, next, end}
use lib.Seq.{take_all}
use Rattle.rfc6386.specs.Reads.{make}
use Rattle.rfc6386.specs.Runs.{or}
use Rattle.vp8_records.specs.Layout.{laid_mv_context}
use Rattle.vp8_fields.specs.Rows.{coded_mv}
use Rattle.vp8_fields.proofs.InPlace.{leaf}
use Rattle.bool_decoder.proofs.Made.{same, worth, makes}
use Rattle.vp8_fields.proofs.motion.mv_context.Goals as goal

pub loop-j-init : goal.loop-j-init
loop-j-init c = begin _ refl

pub mv_or-requires : goal.mv_or-requires
mv_or-requires c = room _ c.loop-j.invariant c.loop-j-test.true c.requires.1

pub loop-j-preserved : goal.loop-j-preserved
loop-j-preserved c =
    let n : length c.args.row.v ≡ 19 = search rules in
    next _ 0 c.loop-j.invariant (omega (arith, c.loop-j-test.true, n)) c.mv_or.ensures

pub returns : goal.returns
returns c = let l = c.loop-j in
    let t = c.args.chances.now in
    let n : length c.args.row.v ≡ 19 = search rules in
    let whole : laid_mv_context l.value-items ≡ record { v = l.value-items } =
    λ i. record { v = take_all 19 l.value-items (omega (arith, l.invariant.same, n)) i } in
    let f = λ (i x : ℕ). make (λ u. or u x) (coded_mv (get_or t i 0)) in
    worth whole
    (same (leaf laid_mv_context f coded_mv t 0 19 (λ i x. rw (zero-add i) refl) c.args.row.v n (omega (arith, c.requires.0)))
    (makes laid_mv_context (end _ l.invariant n c.loop-j-test.false)))
