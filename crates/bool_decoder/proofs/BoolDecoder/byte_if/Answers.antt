-- The read under a flag: `on` and `off`.
use native.Mathlib.Omega.{arith}
use Rattle.bool_decoder.proofs.Chain.{on, upto}
use Rattle.bool_decoder.proofs.Steps.{off}
use Rattle.bool_decoder.proofs.BoolDecoder.byte_if.Goals as goal

pub returns-then-on : goal.returns-then-on
returns-then-on c = on _ c.if-on.true c.read_byte.ensures.ran

pub returns-else-on : goal.returns-else-on
returns-else-on c = upto (omega arith) (off _ c.if-on.false)
