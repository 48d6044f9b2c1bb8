-- Two runs, one after the other, are as long as the array: `full`.
use native.Mathlib.Omega.{arith}
use mathlib.Core.Path.{◌≡◌, ap, sym, ◌∙◌}
use mathlib.Core.List.{◌++◌}
use lib.ListN.{length, length-append, length-map}
use borrow.Author.Rules.{rules}
use Rattle.text.specs.Text.{Text, puts}
use Rattle.text.proofs.Puts.{puts_append}
use Rattle.vp8_flat.specs.Bytes.{segmentation_bytes, adjustment_bytes}
use Rattle.vp8_flat.proofs.Runs.{full}
use Rattle.vp8_state.proofs.front.Goals as goal

pub returns : goal.returns
returns c =
    let sizes : length (segmentation_bytes c.args.s ++ adjustment_bytes c.args.a) ≡ 25 = let s = c.args.s in
    let a = c.args.a in
    let quantizers : length s.quantizer_update_value ≡ 4 = search rules in
    let levels : length s.lf_update_value ≡ 4 = search rules in
    let probs : length s.segment_prob ≡ 3 = search rules in
    let frames : length a.ref_frame_delta ≡ 4 = search rules in
    let modes : length a.mb_mode_delta ≡ 4 = search rules in
    simp (length-append, length-map) (omega arith) in
    c.into_buffer.ensures.bytes
    ∙ full _ _ 25 _ c.new-out.ensures
    (c.put_adjustments.ensures ∙ ap (λ (t : Text). puts t (adjustment_bytes c.args.a)) c.put_segmentation.ensures
    ∙ sym (puts_append _ (segmentation_bytes c.args.s) _)) sizes
