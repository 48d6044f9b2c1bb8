-- A bool, then the read that it picks: a kept value is the coded one written over it.
use native.Mathlib.Omega.{arith}
use Rattle.bool_decoder.proofs.Chain.{on, upto}
use Rattle.bool_decoder.proofs.Steps.{then, off}
use Rattle.bool_decoder.proofs.Made.{kept_or, same}
use Rattle.bool_decoder.proofs.BoolDecoder.byte_or.Goals as goal

pub returns-then-read_bit : goal.returns-then-read_bit
returns-then-read_bit c =
    same (kept_or _ _ _) (then _ c.read_bit.ensures (on _ c.if-read_bit.true c.read_byte.ensures.ran))

pub returns-else-read_bit : goal.returns-else-read_bit
returns-else-read_bit c =
    same (kept_or _ _ _) (upto (omega arith) (then _ c.read_bit.ensures (off _ c.if-read_bit.false)))
