-- The record that 1,126 bytes lay out. That it is the one whose bytes these are is proved (`bytes_back`, `record_back`).
use Rattle.std.specs.Prelude.{ℕ, Bool, List, map, eqb, ℤ, get_or, take, drop}
use Rattle.std.proofs.Common.{to_z}
use Rattle.std.specs.Int.{w8}
use Rattle.vp8_records.specs.declared.Segmentation.{Segmentation}
use Rattle.vp8_records.specs.declared.MbLfAdjustments.{MbLfAdjustments}
use Rattle.vp8_records.specs.declared.ModeProbs.{ModeProbs}
use Rattle.vp8_records.specs.declared.Parser.{Parser}
use Rattle.vp8_records.specs.Layout.{laid_coeffs, laid_mv}

-- n bytes from a place on
abbrev pub part : ℕ → ℕ → List ℕ → List ℕ
part at n b = take n (drop at b)

abbrev pub flag_at : ℕ → List ℕ → Bool
flag_at at b = eqb (get_or b at 0) 1

abbrev pub signed_at : ℕ → List ℕ → List ℤ
signed_at at b = map (to_z w8) (part at 4 b)

abbrev pub segmentation_of : List ℕ → Segmentation
segmentation_of b = record {
  segmentation_enabled = flag_at 0 b;
  update_mb_segmentation_map = flag_at 1 b;
  update_segment_feature_data = flag_at 2 b;
  segment_feature_mode = flag_at 3 b;
  quantizer_update_value = signed_at 4 b;
  lf_update_value = signed_at 8 b;
  segment_prob = part 12 3 b;
}

abbrev pub adjustments_of : List ℕ → MbLfAdjustments
adjustments_of b = record {
  loop_filter_adj_enable = flag_at 15 b;
  mode_ref_lf_delta_update = flag_at 16 b;
  ref_frame_delta = signed_at 17 b;
  mb_mode_delta = signed_at 21 b;
}

abbrev pub modes_of : List ℕ → ModeProbs
modes_of b = record { intra_16x16_prob = part 1119 4 b; intra_chroma_prob = part 1123 3 b }

unfoldable pub parser_of : List ℕ → Parser
parser_of b = record {
  segmentation = segmentation_of b;
  mb_lf_adjust = adjustments_of b;
  coeff_prob = laid_coeffs (part 25 1056 b);
  mv_prob = laid_mv (part 1081 38 b);
  mode_probs = modes_of b;
}
