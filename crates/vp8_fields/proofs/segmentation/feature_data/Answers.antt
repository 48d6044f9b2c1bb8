-- One read after the other, each the definition's value written over the old one.
use mathlib.Core.Path.{◌≡◌, sym}
use lib.IntN.{pos}
use lib.ListN.{length}
use borrow.Author.Rules.{rules}
use Rattle.rfc6386.specs.Reads.{sint}
use Rattle.rfc6386.specs.Coded.{features}
use Rattle.bool_decoder.proofs.Steps.{then, done}
use Rattle.vp8_fields.specs.Rows.{featured}
use Rattle.vp8_fields.proofs.InPlace.{anew_over}
use Rattle.bool_decoder.proofs.Made.{same, worth, makes, made}
use Rattle.vp8_fields.proofs.segmentation.feature_data.Goals as goal

pub returns : goal.returns
unfolding features featured
returns c =
    let four : length c.args.seg.quantizer_update_value ≡ 4 = search rules in
    let four_more : length c.args.seg.lf_update_value ≡ 4 = search rules in
    let g = c.args.seg in
    let q = made (same (anew_over (sint 7) (pos 0) 4 g.quantizer_update_value four) c.sints_or-segmentation.ensures) in
    let l = made (same (anew_over (sint 6) (pos 0) 4 g.lf_update_value four_more) c.sints_or-segmentation-2.ensures) in
    worth (λ i. record {
      segmentation_enabled = g.segmentation_enabled;
      update_mb_segmentation_map = g.update_mb_segmentation_map;
      update_segment_feature_data = g.update_segment_feature_data;
      segment_feature_mode = c.read_flag.result;
      quantizer_update_value = sym q.is i;
      lf_update_value = sym l.is i;
      segment_prob = g.segment_prob;
    })
    (makes (λ f. featured f g) (then _ c.read_flag.ensures (then _ q.ran (then _ l.ran done))))
