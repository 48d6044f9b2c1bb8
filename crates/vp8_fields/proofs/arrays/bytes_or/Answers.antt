-- The loop over the numbers: `Each`, and the definition's reads by `loop_times`.
use native.Mathlib.Omega.{arith}
use mathlib.Core.Path.{◌≡◌, refl}
use lib.ListN.{length}
use borrow.Author.Rules.{rules}
use Rattle.bool_decoder.proofs.Each.{begin, room, next, end}
use Rattle.bool_decoder.proofs.Made.{same}
use Rattle.vp8_fields.proofs.InPlace.{loop_times}
use Rattle.vp8_fields.proofs.arrays.bytes_or.Goals as goal

pub loop-value-init : goal.loop-value-init
loop-value-init g c = begin _ refl

pub byte_or-requires : goal.byte_or-requires
byte_or-requires g c = room _ c.loop-value.invariant c.loop-value-test.true c.requires

pub loop-value-preserved : goal.loop-value-preserved
loop-value-preserved g c =
    let n : length c.args.old ≡ g.row.N = search rules in
    next _ 0 c.loop-value.invariant (omega (arith, c.loop-value-test.true, n)) c.byte_or.ensures

pub returns : goal.returns
returns g c =
    let n : length c.args.old ≡ g.row.N = search rules in
    same (loop_times _ _ (λ i x. refl) g.row.N _ n) (end _ c.loop-value.invariant n c.loop-value-test.false)
