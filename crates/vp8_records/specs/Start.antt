-- Starting values (docs/RULES.md, what is kept): what a fresh parser keeps, what a key frame takes, and the blank header of a refusal.
use Rattle.std.specs.Prelude.{false, replicate, pos}
use Rattle.vp8_probs.specs.Tables.{coeff_default, mv_default, mode_luma, mode_chroma, mode_key_luma, mode_key_chroma}
use Rattle.vp8_records.specs.declared.QuantIndices.{QuantIndices}
use Rattle.vp8_records.specs.declared.MbLfAdjustments.{MbLfAdjustments}
use Rattle.vp8_records.specs.declared.Segmentation.{Segmentation}
use Rattle.vp8_records.specs.declared.ModeProbs.{ModeProbs}
use Rattle.vp8_records.specs.declared.CoeffProbs.{CoeffProbs}
use Rattle.vp8_records.specs.declared.MvProbs.{MvProbs}
use Rattle.vp8_records.specs.declared.Header.{Header}
use Rattle.vp8_records.specs.declared.Parser.{Parser}
use Rattle.vp8_records.specs.Layout.{laid_coeffs, laid_mv}

abbrev pub fresh_segmentation : Segmentation
fresh_segmentation = record {
  segmentation_enabled = false;
  update_mb_segmentation_map = false;
  update_segment_feature_data = false;
  segment_feature_mode = false;
  quantizer_update_value = replicate 4 (pos 0);
  lf_update_value = replicate 4 (pos 0);
  segment_prob = replicate 3 0;
}

abbrev pub fresh_adjustments : MbLfAdjustments
fresh_adjustments = record {
  loop_filter_adj_enable = false;
  mode_ref_lf_delta_update = false;
  ref_frame_delta = replicate 4 (pos 0);
  mb_mode_delta = replicate 4 (pos 0);
}

unfoldable pub fresh_coeffs : CoeffProbs
fresh_coeffs = laid_coeffs coeff_default

unfoldable pub fresh_mv : MvProbs
fresh_mv = laid_mv mv_default

abbrev pub fresh_modes : ModeProbs
fresh_modes = record { intra_16x16_prob = mode_luma; intra_chroma_prob = mode_chroma }

-- the default tables, all else 0 or false
unfoldable pub fresh : Parser
fresh = record {
  segmentation = fresh_segmentation;
  mb_lf_adjust = fresh_adjustments;
  coeff_prob = fresh_coeffs;
  mv_prob = fresh_mv;
  mode_probs = fresh_modes;
}

-- the mode probabilities of a key frame's header
abbrev pub key_modes : ModeProbs
key_modes = record { intra_16x16_prob = mode_key_luma; intra_chroma_prob = mode_key_chroma }

abbrev pub no_quant : QuantIndices
no_quant = record {
  y_ac_qi = 0;
  y_dc_delta = pos 0;
  y2_dc_delta = pos 0;
  y2_ac_delta = pos 0;
  uv_dc_delta = pos 0;
  uv_ac_delta = pos 0;
}

unfoldable pub no_coeffs : CoeffProbs
no_coeffs = laid_coeffs (replicate 1056 0)

unfoldable pub no_mv : MvProbs
no_mv = laid_mv (replicate 38 0)

abbrev pub no_modes : ModeProbs
no_modes = record { intra_16x16_prob = replicate 4 0; intra_chroma_prob = replicate 3 0 }

-- all zeros and false
unfoldable pub blank : Header
blank = record {
  key_frame = false;
  «version» = 0;
  show_frame = false;
  data_chunk_size = 0;
  first_part_size = 0;
  «width» = 0;
  «height» = 0;
  horiz_scale_code = 0;
  vert_scale_code = 0;
  color_space = false;
  clamping_type = false;
  filter_type = false;
  loop_filter_level = 0;
  sharpness_level = 0;
  log2_nbr_of_dct_partitions = 0;
  partition_size = replicate 8 0;
  quant_indices = no_quant;
  refresh_entropy_probs = false;
  refresh_last = false;
  refresh_golden_frame = false;
  refresh_alternate_frame = false;
  copy_buffer_to_golden = 0;
  copy_buffer_to_alternate = 0;
  sign_bias_golden = false;
  sign_bias_alternate = false;
  coeff_prob = no_coeffs;
  mv_prob = no_mv;
  mb_no_coeff_skip = false;
  prob_skip_false = 0;
  prob_intra = 0;
  prob_last = 0;
  prob_golden = 0;
  mode_probs = no_modes;
  bd_range = 0;
  bd_value = 0;
  bd_count = 0;
  header_size = 0;
  «bools» = 0;
  mb_cols = 0;
  mb_rows = 0;
  «past» = 0;
}
