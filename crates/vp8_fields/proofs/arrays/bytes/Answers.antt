-- The loop over the numbers: `Each`, and the definition's reads by `loop_times`.
use native.Mathlib.Omega.{arith}
use mathlib.Core.Path.{◌≡◌, refl}
use lib.ListN.{length}
use borrow.Author.Rules.{rules}
use Rattle.bool_decoder.proofs.Each.{begin, room, next, end}
use Rattle.bool_decoder.proofs.Made.{same}
use Rattle.rfc6386.specs.Reads.{lit}
use Rattle.vp8_fields.proofs.InPlace.{loop_times, some_over}
use Rattle.vp8_fields.proofs.arrays.bytes.Goals as goal

pub loop-value-init : goal.loop-value-init
loop-value-init g c = begin _ refl

pub read_byte-requires : goal.read_byte-requires
read_byte-requires g c = (omega arith, room _ c.loop-value.invariant c.loop-value-test.true c.requires)

pub loop-value-preserved : goal.loop-value-preserved
loop-value-preserved g c =
    let n : length c.args.old ≡ g.row.N = search rules in
    next _ 0 c.loop-value.invariant (omega (arith, c.loop-value-test.true, n)) c.read_byte.ensures.ran

pub returns : goal.returns
returns g c =
    let n : length c.args.old ≡ g.row.N = search rules in
    same (loop_times _ _ (λ i x. some_over (lit 8) x) g.row.N _ n) (end _ c.loop-value.invariant n c.loop-value-test.false)
