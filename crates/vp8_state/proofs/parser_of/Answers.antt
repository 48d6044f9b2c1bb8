-- Section by section, each by the call that lays it out.
use mathlib.Core.Path.{ap, ◌∙◌}
use Rattle.vp8_records.specs.Layout.{laid_mv}
use Rattle.vp8_state.specs.Laid.{parser_of}
use Rattle.vp8_state.proofs.parser_of.Goals as goal

pub returns : goal.returns
unfolding parser_of
returns c = λ i. record {
  segmentation = c.segmentation_of.ensures i;
  mb_lf_adjust = c.adjustments_of.ensures i;
  coeff_prob = record { v = c.array_at.ensures i };
  mv_prob = (c.laid.ensures ∙ ap laid_mv c.array_at-2.ensures) i;
  mode_probs = c.modes_of.ensures i;
}
