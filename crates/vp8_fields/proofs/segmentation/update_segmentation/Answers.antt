-- Three flags, the feature data over the old record, then the probabilities: each the definition's value in its field.
use mathlib.Core.Path.{sym}
use Rattle.rfc6386.specs.Coded.{segments}
use Rattle.rfc6386.specs.Call.{segmented}
use Rattle.bool_decoder.proofs.Steps.{then, done, passed}
use Rattle.vp8_fields.specs.Rows.{featured}
use Rattle.bool_decoder.proofs.Made.{worth, makes, made}
use Rattle.vp8_fields.proofs.segmentation.update_segmentation.Goals as goal

pub returns : goal.returns
unfolding segments segmented featured
returns c = let enabled = c.read_flag-enabled in
    let f = made c.feature_data_if-segmentation.ensures in
    let p = made (rw c.probs_coded-coded.ensures at c.segment_probs_if-segmentation.ensures) in
    passed c.with_past.ensures.value c.with_past.ensures.past
    (worth (λ i. record {
      segmentation_enabled = enabled.result;
      update_mb_segmentation_map = c.flag_if-map.result;
      update_segment_feature_data = c.flag_if-feature.result;
      segment_feature_mode = (sym f.is i).segment_feature_mode;
      quantizer_update_value = (sym f.is i).quantizer_update_value;
      lf_update_value = (sym f.is i).lf_update_value;
      segment_prob = sym p.is i;
    })
    (makes (λ s. segmented s c.args.seg)
    (then _ enabled.ensures (then _ c.flag_if-map.ensures (then _ c.flag_if-feature.ensures (then _ f.ran (then _ p.ran done)))))))
