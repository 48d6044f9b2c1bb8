-- The loop is that of a literal, of any engine: `begin`, `turn`, `end` of the window's `Literal`.
use mathlib.Core.Path.{◌≡◌, refl}
use mathlib.Core.Bool.{Bool, true, false}
use native.Mathlib.Omega.{arith}
use mir.Val.{bool_byte}
use Rattle.rfc6386.specs.Reads.{flag, bit}
use Rattle.bool_decoder.proofs.Literal.{byte_bit, begin, turn, end}
use Rattle.bool_slow.proofs.Steps.{moved}
use Rattle.bool_slow.proofs.SlowDecoder.read_literal.Goals as goal

pub loop-init : goal.loop-init
loop-init c = let d = c.args.self.now in
    begin d.area.now c.args.num_bits d refl

pub loop-preserved : goal.loop-preserved
unfolding flag
loop-preserved c = let i = c.loop.invariant in
    turn i (omega arith) (moved _ _ i.over c.read_bool.ensures) _ (byte_bit c.read_bool.result)

pub returns : goal.returns
returns c = end c.loop.invariant (omega arith)
