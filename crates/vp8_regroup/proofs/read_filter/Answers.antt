-- Nine bools as one literal are the two reads: `nine`.
use mathlib.Core.Path.{sym}
use Rattle.bool_decoder.proofs.Made.{same, makes}
use Rattle.vp8_regroup.proofs.Nine.{nine}
use Rattle.vp8_regroup.proofs.read_filter.Goals as goal

pub returns : goal.returns
returns c = same (sym nine) (makes _ c.read_literal-both.ensures.ran)
