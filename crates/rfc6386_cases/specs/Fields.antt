-- Five frames whose headers have every field coded, each with what RFC 6386 makes of it: two key frames and three inter frames, in which
-- neighbours of one width differ, so that no two of them can be crossed. The bytes were written by an encoder made from section 7.3, bool
-- by bool in the order of section 19.2, and not by way of this definition; the numbers are those that were given to it.
use Rattle.std.specs.Prelude.{ℕ, true, false, List, [], ◌∷◌, pos, neg_ℤ, replicate, set, Ok}
use Rattle.vp8_probs.specs.Tables.{coeff_default, mv_default}
use Rattle.vp8_records.specs.declared.Mode.{Mode}
use Rattle.vp8_records.specs.declared.Mode.TheVariants.{Rust, Standard}
use Rattle.vp8_records.specs.declared.Parser.{Parser}
use Rattle.vp8_records.specs.declared.Header.{Header}
use Rattle.vp8_records.specs.declared.Parsed.{Parsed}
use Rattle.vp8_records.specs.Layout.{laid_coeffs, laid_mv}
use Rattle.vp8_records.specs.Start.{fresh}
use Rattle.rfc6386_cases.specs.Cases.{marked}

abbrev key_bytes : List ℕ
key_bytes =
    0xEA ∷ 0x03 ∷ 0x00 ∷ 0x9D ∷ 0x01 ∷ 0x2A ∷ 0xD2 ∷ 0x44 ∷ 0x37 ∷ 0x82 ∷ 0xBB ∷ 0x1B ∷ 0x7C ∷ 0x01 ∷ 0x55 ∷ 0x05 ∷
    0x93 ∷ 0x39 ∷ 0xCB ∷ 0x3E ∷ 0xD0 ∷ 0x27 ∷ 0x4B ∷ 0x15 ∷ 0x70 ∷ 0x8F ∷ 0xAA ∷ 0xAF ∷ 0x91 ∷ 0x97 ∷ 0xF9 ∷ 0x8E ∷
    0x3F ∷ 0x92 ∷ 0x0A ∷ 0x70 ∷ 0x90 ∷ 0x13 ∷ 0x50 ∷ 0x00 ∷ 0x00 ∷ 0x02 ∷ 0x00 ∷ 0x00 ∷ 0x00 ∷ 0x01 ∷ 0x11 ∷ 0x12 ∷
    0x13 ∷ []

abbrev key_header : Header
key_header = record {
  -- section 9.1, bit 0 of the tag: 0
  key_frame = true;
  -- bits 1 to 3 of the tag
  «version» = 5;
  -- bit 4 of the tag
  show_frame = false;
  -- the tag, and a key frame's start code and sizes
  data_chunk_size = 10;
  -- bits 5 to 23 of the tag
  first_part_size = 31;
  -- low 14 bits of the first size
  «width» = 1234;
  -- low 14 bits of the second
  «height» = 567;
  -- top 2 bits of the first size
  horiz_scale_code = 1;
  -- top 2 bits of the second
  vert_scale_code = 2;
  -- section 19.2, color_space L(1)
  color_space = true;
  -- clamping_type L(1)
  clamping_type = false;
  -- filter_type L(1), after the segmentation
  filter_type = true;
  -- loop_filter_level L(6)
  loop_filter_level = 43;
  -- sharpness_level L(3)
  sharpness_level = 6;
  -- log2_nbr_of_dct_partitions L(2), after the filter adjustments
  log2_nbr_of_dct_partitions = 1;
  -- section 9.5: 3 bytes each, the last is the rest
  partition_size = 2 ∷ 3 ∷ 0 ∷ 0 ∷ 0 ∷ 0 ∷ 0 ∷ 0 ∷ [];
  -- quant_indices(): L(7), then a flag, and where it is set L(4) and a sign, for each delta
  quant_indices = record {
    y_ac_qi = 99;
    y_dc_delta = pos 15;
    y2_dc_delta = neg_ℤ (pos 7);
    y2_ac_delta = pos 0;
    uv_dc_delta = pos 4;
    uv_ac_delta = neg_ℤ (pos 11);
  };
  -- refresh_entropy_probs L(1)
  refresh_entropy_probs = true;
  -- set in a key frame
  refresh_last = true;
  -- set in a key frame
  refresh_golden_frame = true;
  -- set in a key frame
  refresh_alternate_frame = true;
  -- not in a key frame
  copy_buffer_to_golden = 0;
  -- not in a key frame
  copy_buffer_to_alternate = 0;
  -- not in a key frame
  sign_bias_golden = false;
  -- not in a key frame
  sign_bias_alternate = false;
  -- token_prob_update(): L(8) where the flag is set, at 0, 346, 1055
  coeff_prob = laid_coeffs (set (set (set coeff_default 0 201) 346 9) 1055 128);
  -- not in a key frame
  mv_prob = laid_mv mv_default;
  -- mb_no_skip_coeff L(1), after the coefficient probabilities
  mb_no_coeff_skip = false;
  -- not coded
  prob_skip_false = 0;
  -- not in a key frame
  prob_intra = 0;
  -- not in a key frame
  prob_last = 0;
  -- not in a key frame
  prob_golden = 0;
  -- sections 11.2 and 11.4: those of key frames
  mode_probs = record { intra_16x16_prob = 145 ∷ 156 ∷ 163 ∷ 128 ∷ []; intra_chroma_prob = 142 ∷ 114 ∷ 183 ∷ [] };
  -- section 7.3: the range after the last bool
  bd_range = 128;
  -- the whole part of the value
  bd_value = 0;
  -- bits of the next byte: 235 doublings
  bd_count = 5;
  -- bits of the area: the doublings
  header_size = 235;
  -- the bools written
  «bools» = 1256;
  -- macroblocks across, the last one filled up
  mb_cols = 78;
  -- macroblocks down, likewise
  mb_rows = 36;
  -- bits past the end of the bytes that are read
  «past» = 0;
}

abbrev key_left : Parser
key_left = record {
  -- segmentation_enabled L(1); then update_segmentation(): update_mb_segmentation_map L(1), update_segment_feature_data L(1)
  segmentation = record {
    segmentation_enabled = true;
    update_mb_segmentation_map = true;
    update_segment_feature_data = true;
    -- segment_feature_mode L(1); L(7) and a sign, or 0 without the flag; L(6) and a sign likewise
    segment_feature_mode = false;
    quantizer_update_value = neg_ℤ (pos 100) ∷ pos 0 ∷ pos 33 ∷ neg_ℤ (pos 7) ∷ [];
    lf_update_value = pos 0 ∷ neg_ℤ (pos 50) ∷ pos 60 ∷ pos 5 ∷ [];
    -- segment_prob: L(8), or 255 without the flag
    segment_prob = 200 ∷ 255 ∷ 17 ∷ [];
  };
  -- loop_filter_adj_enable L(1); mode_ref_lf_delta_update L(1); then L(6) and a sign where the flag is set
  mb_lf_adjust = record {
    loop_filter_adj_enable = true;
    mode_ref_lf_delta_update = true;
    ref_frame_delta = pos 10 ∷ pos 0 ∷ neg_ℤ (pos 20) ∷ neg_ℤ (pos 63) ∷ [];
    mb_mode_delta = neg_ℤ (pos 1) ∷ pos 2 ∷ pos 0 ∷ pos 30 ∷ [];
  };
  -- kept, as refresh_entropy_probs is set
  coeff_prob = laid_coeffs (set (set (set coeff_default 0 201) 346 9) 1055 128);
  mv_prob = laid_mv mv_default;
  mode_probs = record { intra_16x16_prob = 112 ∷ 86 ∷ 140 ∷ 37 ∷ []; intra_chroma_prob = 162 ∷ 101 ∷ 204 ∷ [] };
}

abbrev plain_bytes : List ℕ
plain_bytes =
    0x74 ∷ 0x01 ∷ 0x00 ∷ 0x9D ∷ 0x01 ∷ 0x2A ∷ 0x10 ∷ 0xC0 ∷ 0x2F ∷ 0x00 ∷ 0x42 ∷ 0x53 ∷ 0x02 ∷ 0x4A ∷ 0x3C ∷ 0xC0 ∷
    0xC0 ∷ 0x01 ∷ 0x09 ∷ 0x5C ∷ 0x00 ∷ 0x01 ∷ 0x00 ∷ 0x00 ∷ 0x00 ∷ 0x00 ∷ 0x00 ∷ 0x02 ∷ 0x00 ∷ 0x00 ∷ 0x00 ∷ 0x00 ∷
    0x00 ∷ 0x03 ∷ 0x00 ∷ 0x00 ∷ 0x01 ∷ 0x00 ∷ 0x00 ∷ 0x00 ∷ 0x00 ∷ 0x00 ∷ 0x00 ∷ 0x22 ∷ 0x23 ∷ 0x44 ∷ 0x45 ∷ 0x46 ∷
    0x55 ∷ 0x77 ∷ 0x78 ∷ 0x79 ∷ 0x7A ∷ []

abbrev plain_header : Header
plain_header = record {
  -- section 9.1, bit 0 of the tag: 0
  key_frame = true;
  -- bits 1 to 3 of the tag
  «version» = 2;
  -- bit 4 of the tag
  show_frame = true;
  -- the tag, and a key frame's start code and sizes
  data_chunk_size = 10;
  -- bits 5 to 23 of the tag
  first_part_size = 11;
  -- low 14 bits of the first size
  «width» = 16;
  -- low 14 bits of the second
  «height» = 47;
  -- top 2 bits of the first size
  horiz_scale_code = 3;
  -- top 2 bits of the second
  vert_scale_code = 0;
  -- section 19.2, color_space L(1)
  color_space = false;
  -- clamping_type L(1)
  clamping_type = true;
  -- filter_type L(1), after the segmentation
  filter_type = false;
  -- loop_filter_level L(6)
  loop_filter_level = 9;
  -- sharpness_level L(3)
  sharpness_level = 2;
  -- log2_nbr_of_dct_partitions L(2), after the filter adjustments
  log2_nbr_of_dct_partitions = 3;
  -- section 9.5: 3 bytes each, the last is the rest
  partition_size = 1 ∷ 0 ∷ 2 ∷ 0 ∷ 3 ∷ 1 ∷ 0 ∷ 4 ∷ [];
  -- quant_indices(): L(7), then a flag, and where it is set L(4) and a sign, for each delta
  quant_indices = record {
    y_ac_qi = 1;
    y_dc_delta = pos 0;
    y2_dc_delta = pos 0;
    y2_ac_delta = neg_ℤ (pos 2);
    uv_dc_delta = pos 0;
    uv_ac_delta = pos 0;
  };
  -- refresh_entropy_probs L(1)
  refresh_entropy_probs = false;
  -- set in a key frame
  refresh_last = true;
  -- set in a key frame
  refresh_golden_frame = true;
  -- set in a key frame
  refresh_alternate_frame = true;
  -- not in a key frame
  copy_buffer_to_golden = 0;
  -- not in a key frame
  copy_buffer_to_alternate = 0;
  -- not in a key frame
  sign_bias_golden = false;
  -- not in a key frame
  sign_bias_alternate = false;
  -- token_prob_update(): L(8) where the flag is set, at 11
  coeff_prob = laid_coeffs (set coeff_default 11 3);
  -- not in a key frame
  mv_prob = laid_mv mv_default;
  -- mb_no_skip_coeff L(1), after the coefficient probabilities
  mb_no_coeff_skip = true;
  -- prob_skip_false L(8)
  prob_skip_false = 77;
  -- not in a key frame
  prob_intra = 0;
  -- not in a key frame
  prob_last = 0;
  -- not in a key frame
  prob_golden = 0;
  -- sections 11.2 and 11.4: those of key frames
  mode_probs = record { intra_16x16_prob = 145 ∷ 156 ∷ 163 ∷ 128 ∷ []; intra_chroma_prob = 142 ∷ 114 ∷ 183 ∷ [] };
  -- section 7.3: the range after the last bool
  bd_range = 204;
  -- the whole part of the value
  bd_value = 0;
  -- bits of the next byte: 72 doublings
  bd_count = 0;
  -- bits of the area: the doublings
  header_size = 72;
  -- the bools written
  «bools» = 1107;
  -- macroblocks across, the last one filled up
  mb_cols = 1;
  -- macroblocks down, likewise
  mb_rows = 3;
  -- bits past the end of the bytes that are read
  «past» = 0;
}

abbrev plain_left : Parser
plain_left = record {
  -- segmentation_enabled L(1): clear, so that no more is coded
  segmentation = record {
    segmentation_enabled = false;
    update_mb_segmentation_map = false;
    update_segment_feature_data = false;
    segment_feature_mode = false;
    quantizer_update_value = pos 0 ∷ pos 0 ∷ pos 0 ∷ pos 0 ∷ [];
    lf_update_value = pos 0 ∷ pos 0 ∷ pos 0 ∷ pos 0 ∷ [];
    segment_prob = 0 ∷ 0 ∷ 0 ∷ [];
  };
  -- loop_filter_adj_enable L(1): clear, so that no more is coded
  mb_lf_adjust = record {
    loop_filter_adj_enable = false;
    mode_ref_lf_delta_update = false;
    ref_frame_delta = pos 0 ∷ pos 0 ∷ pos 0 ∷ pos 0 ∷ [];
    mb_mode_delta = pos 0 ∷ pos 0 ∷ pos 0 ∷ pos 0 ∷ [];
  };
  -- not kept, as refresh_entropy_probs is clear
  coeff_prob = laid_coeffs coeff_default;
  mv_prob = laid_mv mv_default;
  mode_probs = record { intra_16x16_prob = 112 ∷ 86 ∷ 140 ∷ 37 ∷ []; intra_chroma_prob = 162 ∷ 101 ∷ 204 ∷ [] };
}

abbrev inter_bytes : List ℕ
inter_bytes =
    0x77 ∷ 0x04 ∷ 0x00 ∷ 0xB7 ∷ 0xA3 ∷ 0xED ∷ 0xD3 ∷ 0x00 ∷ 0x45 ∷ 0x3E ∷ 0x91 ∷ 0x49 ∷ 0x2C ∷ 0xED ∷ 0xBC ∷ 0x42 ∷
    0x8A ∷ 0x3F ∷ 0xC0 ∷ 0x7C ∷ 0x00 ∷ 0x81 ∷ 0x96 ∷ 0x81 ∷ 0xF6 ∷ 0x4B ∷ 0x3F ∷ 0x89 ∷ 0x75 ∷ 0xFF ∷ 0xFA ∷ 0xF6 ∷
    0x12 ∷ 0xC8 ∷ 0xB9 ∷ 0x24 ∷ 0x3F ∷ 0x00 ∷ 0x02 ∷ 0x00 ∷ 0x00 ∷ 0x00 ∷ 0x00 ∷ 0x00 ∷ 0x01 ∷ 0x00 ∷ 0x00 ∷ 0x00 ∷
    0x01 ∷ 0x22 ∷ 0x33 ∷ 0x34 ∷ 0x35 ∷ []

abbrev inter_header : Header
inter_header = record {
  -- section 9.1, bit 0 of the tag: 1
  key_frame = false;
  -- bits 1 to 3 of the tag
  «version» = 3;
  -- bit 4 of the tag
  show_frame = true;
  -- the tag alone
  data_chunk_size = 3;
  -- bits 5 to 23 of the tag
  first_part_size = 35;
  -- sizes are a key frame's
  «width» = 0;
  -- likewise
  «height» = 0;
  -- likewise
  horiz_scale_code = 0;
  -- likewise
  vert_scale_code = 0;
  -- section 19.2: a key frame's
  color_space = false;
  -- a key frame's
  clamping_type = false;
  -- filter_type L(1), after the segmentation
  filter_type = false;
  -- loop_filter_level L(6)
  loop_filter_level = 21;
  -- sharpness_level L(3)
  sharpness_level = 3;
  -- log2_nbr_of_dct_partitions L(2), after the filter adjustments
  log2_nbr_of_dct_partitions = 2;
  -- section 9.5: 3 bytes each, the last is the rest
  partition_size = 2 ∷ 0 ∷ 1 ∷ 3 ∷ 0 ∷ 0 ∷ 0 ∷ 0 ∷ [];
  -- quant_indices(): L(7), then a flag, and where it is set L(4) and a sign, for each delta
  quant_indices = record {
    y_ac_qi = 5;
    y_dc_delta = pos 0;
    y2_dc_delta = pos 1;
    y2_ac_delta = neg_ℤ (pos 15);
    uv_dc_delta = pos 0;
    uv_ac_delta = pos 8;
  };
  -- refresh_entropy_probs L(1), after the sign biases
  refresh_entropy_probs = true;
  -- refresh_last L(1), after that
  refresh_last = false;
  -- refresh_golden_frame L(1), the first of these
  refresh_golden_frame = false;
  -- refresh_alternate_frame L(1)
  refresh_alternate_frame = true;
  -- copy_buffer_to_golden L(2), as refresh_golden_frame is clear
  copy_buffer_to_golden = 2;
  -- not coded, as refresh_alternate_frame is set
  copy_buffer_to_alternate = 0;
  -- sign_bias_golden L(1)
  sign_bias_golden = true;
  -- sign_bias_alternate L(1)
  sign_bias_alternate = false;
  -- token_prob_update(): L(8) where the flag is set, at 1, 500, 1054
  coeff_prob = laid_coeffs (set (set (set coeff_default 1 255) 500 1) 1054 64);
  -- mv_prob_update(): L(7) where the flag is set, at 0, 5, 37: twice it, or 1 for 0
  mv_prob = laid_mv (set (set (set mv_default 0 1) 5 200) 37 254);
  -- mb_no_skip_coeff L(1), after the coefficient probabilities
  mb_no_coeff_skip = true;
  -- prob_skip_false L(8)
  prob_skip_false = 250;
  -- prob_intra L(8)
  prob_intra = 63;
  -- prob_last L(8)
  prob_last = 191;
  -- prob_gf L(8)
  prob_golden = 7;
  -- intra_16x16_prob: L(8) each; intra_chroma_prob: not coded
  mode_probs = record { intra_16x16_prob = 10 ∷ 20 ∷ 30 ∷ 40 ∷ []; intra_chroma_prob = 162 ∷ 101 ∷ 204 ∷ [] };
  -- section 7.3: the range after the last bool
  bd_range = 128;
  -- the whole part of the value
  bd_value = 0;
  -- bits of the next byte: 271 doublings
  bd_count = 1;
  -- bits of the area: the doublings
  header_size = 271;
  -- the bools written
  «bools» = 1312;
  -- macroblocks across, the last one filled up
  mb_cols = 0;
  -- macroblocks down, likewise
  mb_rows = 0;
  -- bits past the end of the bytes that are read
  «past» = 0;
}

abbrev inter_left : Parser
inter_left = record {
  -- segmentation_enabled L(1); then update_segmentation(): update_mb_segmentation_map L(1), update_segment_feature_data L(1)
  segmentation = record {
    segmentation_enabled = true;
    update_mb_segmentation_map = false;
    update_segment_feature_data = true;
    -- segment_feature_mode L(1); L(7) and a sign, or 0 without the flag; L(6) and a sign likewise
    segment_feature_mode = true;
    quantizer_update_value = pos 1 ∷ neg_ℤ (pos 2) ∷ pos 0 ∷ pos 127 ∷ [];
    lf_update_value = pos 63 ∷ pos 0 ∷ neg_ℤ (pos 1) ∷ pos 2 ∷ [];
    segment_prob = 0 ∷ 0 ∷ 0 ∷ [];
  };
  -- loop_filter_adj_enable L(1); mode_ref_lf_delta_update L(1)
  mb_lf_adjust = record {
    loop_filter_adj_enable = true;
    mode_ref_lf_delta_update = false;
    ref_frame_delta = pos 0 ∷ pos 0 ∷ pos 0 ∷ pos 0 ∷ [];
    mb_mode_delta = pos 0 ∷ pos 0 ∷ pos 0 ∷ pos 0 ∷ [];
  };
  -- kept, as refresh_entropy_probs is set
  coeff_prob = laid_coeffs (set (set (set coeff_default 1 255) 500 1) 1054 64);
  mv_prob = laid_mv (set (set (set mv_default 0 1) 5 200) 37 254);
  mode_probs = record { intra_16x16_prob = 10 ∷ 20 ∷ 30 ∷ 40 ∷ []; intra_chroma_prob = 162 ∷ 101 ∷ 204 ∷ [] };
}

abbrev kept_bytes : List ℕ
kept_bytes =
    0x81 ∷ 0x03 ∷ 0x00 ∷ 0xDE ∷ 0xCF ∷ 0x76 ∷ 0x21 ∷ 0xB6 ∷ 0x95 ∷ 0x01 ∷ 0x68 ∷ 0xE0 ∷ 0xA9 ∷ 0x7D ∷ 0x4C ∷ 0x58 ∷
    0xC0 ∷ 0x13 ∷ 0x05 ∷ 0x80 ∷ 0x01 ∷ 0x52 ∷ 0xA4 ∷ 0x54 ∷ 0x7B ∷ 0xC7 ∷ 0x42 ∷ 0x0B ∷ 0xF4 ∷ 0x00 ∷ 0x00 ∷ 0x00 ∷
    0x01 ∷ 0x02 ∷ 0x03 ∷ []

-- by the bytes of its first partition, and by how many bools and doublings the segmentation takes beyond the rest
abbrev kept_header : ℕ → ℕ → ℕ → ℕ → Header
kept_header first count doublings bools = record {
  -- section 9.1, bit 0 of the tag: 1
  key_frame = false;
  -- bits 1 to 3 of the tag
  «version» = 0;
  -- bit 4 of the tag
  show_frame = false;
  -- the tag alone
  data_chunk_size = 3;
  -- bits 5 to 23 of the tag
  first_part_size = first;
  -- sizes are a key frame's
  «width» = 0;
  -- likewise
  «height» = 0;
  -- likewise
  horiz_scale_code = 0;
  -- likewise
  vert_scale_code = 0;
  -- section 19.2: a key frame's
  color_space = false;
  -- a key frame's
  clamping_type = false;
  -- filter_type L(1), after the segmentation
  filter_type = true;
  -- loop_filter_level L(6)
  loop_filter_level = 62;
  -- sharpness_level L(3)
  sharpness_level = 1;
  -- log2_nbr_of_dct_partitions L(2), after the filter adjustments
  log2_nbr_of_dct_partitions = 0;
  -- section 9.5: one, the rest
  partition_size = 4 ∷ 0 ∷ 0 ∷ 0 ∷ 0 ∷ 0 ∷ 0 ∷ 0 ∷ [];
  -- quant_indices(): L(7), then a flag, and where it is set L(4) and a sign, for each delta
  quant_indices = record {
    y_ac_qi = 127;
    y_dc_delta = neg_ℤ (pos 1);
    y2_dc_delta = pos 0;
    y2_ac_delta = pos 2;
    uv_dc_delta = neg_ℤ (pos 3);
    uv_ac_delta = pos 0;
  };
  -- refresh_entropy_probs L(1), after the sign biases
  refresh_entropy_probs = false;
  -- refresh_last L(1), after that
  refresh_last = true;
  -- refresh_golden_frame L(1), the first of these
  refresh_golden_frame = false;
  -- refresh_alternate_frame L(1)
  refresh_alternate_frame = false;
  -- copy_buffer_to_golden L(2), as refresh_golden_frame is clear
  copy_buffer_to_golden = 1;
  -- copy_buffer_to_alternate L(2), as refresh_alternate_frame is clear
  copy_buffer_to_alternate = 2;
  -- sign_bias_golden L(1)
  sign_bias_golden = false;
  -- sign_bias_alternate L(1)
  sign_bias_alternate = true;
  -- token_prob_update(): L(8) where the flag is set, at 2, 700
  coeff_prob = laid_coeffs (set (set (replicate 1056 6) 2 99) 700 44);
  -- mv_prob_update(): L(7) where the flag is set, at 1, 20: twice it, or 1 for 0
  mv_prob = laid_mv (set (set (replicate 38 7) 1 2) 20 128);
  -- mb_no_skip_coeff L(1), after the coefficient probabilities
  mb_no_coeff_skip = false;
  -- not coded
  prob_skip_false = 0;
  -- prob_intra L(8)
  prob_intra = 1;
  -- prob_last L(8)
  prob_last = 2;
  -- prob_gf L(8)
  prob_golden = 3;
  -- intra_16x16_prob: not coded; intra_chroma_prob: L(8) each
  mode_probs = record { intra_16x16_prob = 8 ∷ 8 ∷ 8 ∷ 8 ∷ []; intra_chroma_prob = 50 ∷ 60 ∷ 70 ∷ [] };
  -- section 7.3: the range after the last bool
  bd_range = 228;
  -- the whole part of the value
  bd_value = 0;
  -- bits of the next byte
  bd_count = count;
  -- bits of the area: the doublings
  header_size = doublings;
  -- the bools written
  «bools» = bools;
  -- macroblocks across, the last one filled up
  mb_cols = 0;
  -- macroblocks down, likewise
  mb_rows = 0;
  -- bits past the end of the bytes that are read
  «past» = 0;
}

abbrev kept_left : List ℕ → Parser
kept_left probs = record {
  -- segmentation_enabled L(1); then update_segmentation(): update_mb_segmentation_map L(1), update_segment_feature_data L(1)
  segmentation = record {
    segmentation_enabled = true;
    update_mb_segmentation_map = true;
    update_segment_feature_data = false;
    segment_feature_mode = true;
    quantizer_update_value = pos 1 ∷ pos 1 ∷ pos 1 ∷ pos 1 ∷ [];
    lf_update_value = pos 2 ∷ pos 2 ∷ pos 2 ∷ pos 2 ∷ [];
    segment_prob = probs;
  };
  -- loop_filter_adj_enable L(1); mode_ref_lf_delta_update L(1); then L(6) and a sign where the flag is set
  mb_lf_adjust = record {
    loop_filter_adj_enable = true;
    mode_ref_lf_delta_update = true;
    ref_frame_delta = pos 4 ∷ neg_ℤ (pos 9) ∷ pos 4 ∷ pos 8 ∷ [];
    mb_mode_delta = pos 7 ∷ pos 5 ∷ neg_ℤ (pos 6) ∷ pos 5 ∷ [];
  };
  -- not kept, as refresh_entropy_probs is clear
  coeff_prob = laid_coeffs (replicate 1056 6);
  mv_prob = laid_mv (replicate 38 7);
  mode_probs = record { intra_16x16_prob = 8 ∷ 8 ∷ 8 ∷ 8 ∷ []; intra_chroma_prob = 9 ∷ 9 ∷ 9 ∷ [] };
}

-- the same fields, with the segment probabilities coded after the map: 77, none, 201
abbrev map_bytes : List ℕ
map_bytes =
    0xC1 ∷ 0x03 ∷ 0x00 ∷ 0xD4 ∷ 0x2D ∷ 0x79 ∷ 0xA1 ∷ 0xEE ∷ 0xC4 ∷ 0x36 ∷ 0xD2 ∷ 0xA0 ∷ 0x2D ∷ 0x1C ∷ 0x15 ∷ 0x2F ∷
    0xA9 ∷ 0x8B ∷ 0x18 ∷ 0x02 ∷ 0x60 ∷ 0xB0 ∷ 0x00 ∷ 0x2A ∷ 0x54 ∷ 0x8A ∷ 0x8F ∷ 0x78 ∷ 0xE8 ∷ 0x41 ∷ 0x7E ∷ 0x80 ∷
    0x00 ∷ 0x00 ∷ 0x01 ∷ 0x02 ∷ 0x03 ∷ []

-- a frame in a mode over a parser, and its answer
pub record Example : Type 0 where
  pub mode : Mode
  pub bytes : List ℕ
  pub over : Parser
  pub answer : Parsed

abbrev accepts : List ℕ → Parser → Header → Parser → Mode → Example
accepts f p h q md = record { mode = md; bytes = f; over = p; answer = record { outcome = Ok tt; header = h; parser = q } }

unfoldable pub examples : List Example
examples =
    -- everything is coded; of the parser nothing is left; the same in both modes
    accepts key_bytes marked key_header key_left Rust
    ∷ accepts key_bytes marked key_header key_left Standard
    -- neither segmentation nor filter adjustments; eight partitions; probabilities for this frame alone
    ∷ accepts plain_bytes marked plain_header plain_left Rust
    -- new segment values with no new map; filter adjustments kept as they were
    ∷ accepts inter_bytes fresh inter_header inter_left Rust
    -- a new map with no new values, without the segment probabilities and with them; filter deltas without their flags, and
    -- probabilities, stay as they were
    ∷ accepts kept_bytes marked (kept_header 28 7 209 1265) (kept_left (3 ∷ 3 ∷ 3 ∷ [])) Rust
    ∷ accepts map_bytes marked (kept_header 30 4 228 1284) (kept_left (77 ∷ 255 ∷ 201 ∷ [])) Standard
    ∷ []
