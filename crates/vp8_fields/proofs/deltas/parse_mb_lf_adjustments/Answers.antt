-- One read after the other, each the definition's value written over the old one.
use mathlib.Core.Path.{sym}
use Rattle.rfc6386.specs.Coded.{deltas}
use Rattle.rfc6386.specs.Call.{adjusted}
use Rattle.bool_decoder.proofs.Steps.{then, done, passed}
use Rattle.bool_decoder.proofs.Made.{worth, makes, made}
use Rattle.vp8_fields.proofs.deltas.parse_mb_lf_adjustments.Goals as goal

pub returns : goal.returns
unfolding deltas adjusted
returns c = let enable = c.read_flag-loop_filter_adj_enable in
    let update = c.flag_if-mode_ref_lf_delta_update in
    let f = made c.deltas_if-ref_frame_delta.ensures in
    let m = made c.deltas_if-mb_mode_delta.ensures in
    passed c.with_past.ensures.value c.with_past.ensures.past
    (worth (λ i. record {
      loop_filter_adj_enable = enable.result;
      mode_ref_lf_delta_update = update.result;
      ref_frame_delta = sym f.is i;
      mb_mode_delta = sym m.is i;
    })
    (makes (λ s. adjusted s c.args.adj) (then _ enable.ensures (then _ update.ensures (then _ f.ran (then _ m.ran done))))))
