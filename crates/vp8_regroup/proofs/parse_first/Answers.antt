-- As the proof of that name in `vp8_header`, with level and sharpness as one read: `first_by_lem`.
use mathlib.Core.Path.{sym}
use Rattle.bool_decoder.proofs.Steps.{then, done}
use Rattle.bool_decoder.proofs.Made.{same, worth, makes, made}
use Rattle.vp8_header.specs.Stages.{first_of}
use Rattle.vp8_regroup.proofs.Nine.{first_by, first_by_lem}
use Rattle.vp8_regroup.proofs.parse_first.Goals as goal

pub returns : goal.returns
unfolding first_of first_by
returns c = let args = c.args in
    let g = made c.update_segmentation.ensures.ran in
    worth (λ i. record {
      color_space = c.flag_if-color_space.result;
      clamping_type = c.flag_if-clamping_type.result;
      «segmentation» = sym g.is i;
      filter_type = c.read_flag-filter_type.result;
      loop_filter_level = c.read_filter-filter.result.level;
      sharpness_level = c.read_filter-filter.result.sharpness;
    })
    (makes (first_of args.seg) (same (first_by_lem args.mode args.key)
    (then _ c.flag_if-color_space.ensures (then _ c.flag_if-clamping_type.ensures (then _ g.ran (then _ c.read_flag-filter_type.ensures
    (then _ c.read_filter-filter.ensures done)))))))
