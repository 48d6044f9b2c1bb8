-- The loop over the numbers: `Each`, and the definition's reads by `loop_times`.
use native.Mathlib.Omega.{arith}
use mathlib.Core.Path.{◌≡◌, refl}
use lib.ListN.{length, get_or}
use borrow.Author.Rules.{rules}
use Rattle.bool_decoder.proofs.Each.{begin, room, next, end}
use Rattle.bool_decoder.proofs.Made.{same, kept_or}
use Rattle.rfc6386.specs.Reads.{flag, or_else}
use Rattle.vp8_fields.proofs.InPlace.{loop_times}
use lib.IntN.{ℤ, pos}
use mir.Facts.{to_z-of_z}
use mir.Syntax.{w8}
use mir.Val.{to_z, of_z}
use Rattle.vp8_fields.proofs.arrays.sints_or.Goals as goal

pub loop-value-init : goal.loop-value-init
loop-value-init g c = begin _ refl

pub sint_or-requires : goal.sint_or-requires
sint_or-requires g c = (c.requires.0, room _ c.loop-value.invariant c.loop-value-test.true c.requires.1)

pub loop-value-preserved : goal.loop-value-preserved
loop-value-preserved g c =
    let n : length c.args.old ≡ g.row.N = search rules in
    let l = c.loop-value in
    let x : ℤ = get_or l.value-items l.value-index (pos 0) in
    let z : ℤ = c.sint_or.result in
    let old : to_z w8 (of_z w8 x) ≡ x = to_z-of_z {w = w8} {z = x} (search rules) in
    let new : to_z w8 (of_z w8 z) ≡ z = to_z-of_z {w = w8} {z = z} (record { sfits = c.sint_or.type_inv }) in
    next _ (pos 0) l.invariant (omega (arith, c.loop-value-test.true, n)) (rw new (rw old at c.sint_or.ensures))

pub returns : goal.returns
unfolding or_else flag
returns g c =
    let n : length c.args.old ≡ g.row.N = search rules in
    same (loop_times _ _ (λ i x. kept_or 128 _ x) g.row.N _ n) (end _ c.loop-value.invariant n c.loop-value-test.false)
