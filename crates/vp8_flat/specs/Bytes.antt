-- The records as runs of bytes: the kept numbers as `rfc6386_history` counts them, each as its byte.
use Rattle.std.specs.Prelude.{ℕ, Bool, true, false, List, [], ◌∷◌, ◌++◌, map}
use Rattle.std.proofs.Common.{of_z}
use Rattle.std.specs.Int.{w8}
use Rattle.vp8_records.specs.declared.ModeProbs.{ModeProbs}
use Rattle.vp8_records.specs.declared.Segmentation.{Segmentation}
use Rattle.vp8_records.specs.declared.MbLfAdjustments.{MbLfAdjustments}
use Rattle.vp8_records.specs.declared.Parser.{Parser}
use Rattle.rfc6386_history.specs.Kept.{numbers}

abbrev pub bit_of : Bool → ℕ
bit_of true = 1
bit_of false = 0

abbrev pub flat_modes : ModeProbs → List ℕ
flat_modes m = m.intra_16x16_prob ++ m.intra_chroma_prob

abbrev pub segmentation_bytes : Segmentation → List ℕ
segmentation_bytes s =
    (bit_of s.segmentation_enabled
    ∷ bit_of s.update_mb_segmentation_map
    ∷ bit_of s.update_segment_feature_data
    ∷ bit_of s.segment_feature_mode
    ∷ [])
    ++ (map (of_z w8) s.quantizer_update_value ++ (map (of_z w8) s.lf_update_value ++ s.segment_prob))

abbrev pub adjustment_bytes : MbLfAdjustments → List ℕ
adjustment_bytes a =
    (bit_of a.loop_filter_adj_enable ∷ bit_of a.mode_ref_lf_delta_update ∷ [])
    ++ (map (of_z w8) a.ref_frame_delta ++ map (of_z w8) a.mb_mode_delta)

-- the 1,126 kept numbers, a byte each
unfoldable pub kept_bytes : Parser → List ℕ
kept_bytes p = map (of_z w8) (numbers p)
