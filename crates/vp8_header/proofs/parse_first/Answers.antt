-- One read after the other, chained; the segmentation is the definition's written over the old one.
use mathlib.Core.Path.{sym}
use Rattle.bool_decoder.proofs.Steps.{then, done}
use Rattle.bool_decoder.proofs.Made.{worth, makes, made}
use Rattle.vp8_header.specs.Stages.{first, first_of}
use Rattle.vp8_header.proofs.parse_first.Goals as goal

pub returns : goal.returns
unfolding first first_of
returns c = let g = made c.update_segmentation.ensures.ran in
    worth (λ i. record {
      color_space = c.flag_if-color_space.result;
      clamping_type = c.flag_if-clamping_type.result;
      «segmentation» = sym g.is i;
      filter_type = c.read_flag-filter_type.result;
      loop_filter_level = c.read_byte-loop_filter_level.result;
      sharpness_level = c.read_byte-sharpness_level.result;
    })
    (makes (first_of c.args.seg)
    (then _ c.flag_if-color_space.ensures (then _ c.flag_if-clamping_type.ensures (then _ g.ran (then _ c.read_flag-filter_type.ensures
    (then _ c.read_byte-loop_filter_level.ensures.ran (then _ c.read_byte-sharpness_level.ensures.ran done)))))))
