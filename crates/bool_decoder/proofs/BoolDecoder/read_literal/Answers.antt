-- The loop is Literal's; the value fits since it is below 2 ^ 31.
use native.Mathlib.Omega.{arith}
use mathlib.Core.Path.{refl, ◌∙◌}
use Rattle.bool_decoder.proofs.Literal.{byte_bit, begin, turn, end}
use Rattle.bool_decoder.proofs.Steps.{moved}
use Rattle.bool_decoder.proofs.BoolDecoder.read_literal.Goals as goal

pub loop-init : goal.loop-init
loop-init c = let d = c.args.self.now in
    begin d.area.now c.args.nbits d refl

pub loop-preserved : goal.loop-preserved
loop-preserved c = let i = c.loop.invariant in
    turn i (omega arith) (moved i.over c.read_flag.ensures) c.from.result (c.from.ensures ∙ byte_bit c.read_flag.result)

pub returns : goal.returns
returns c = end c.loop.invariant (omega arith)
