-- The reads under a flag: `make_on` and `make_off`.
use native.Mathlib.Omega.{arith}
use Rattle.bool_decoder.proofs.Chain.{upto}
use Rattle.bool_decoder.proofs.Steps.{done}
use Rattle.rfc6386.specs.Runs.{over}
use Rattle.vp8_fields.specs.Rows.{featured}
use Rattle.bool_decoder.proofs.Made.{make_on, make_off, same}
use Rattle.vp8_fields.proofs.segmentation.feature_data_if.Goals as goal

pub returns-then-on : goal.returns-then-on
returns-then-on c = same (make_on _ _ _ c.if-on.true) c.feature_data.ensures

pub returns-else-on : goal.returns-else-on
unfolding over featured
returns-else-on c = upto (omega arith) (same (make_off _ _ _ c.if-on.false) done)
