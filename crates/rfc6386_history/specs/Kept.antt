-- The kept numbers, as the rules count them (docs/RULES.md, what is kept): 1,126, in the order of the record's fields. A flag is 0 or 1.
use Rattle.std.specs.Prelude.{ℕ, Bool, true, false, List, [], ◌∷◌, map, ℤ, pos, get_or}
use Rattle.vp8_records.specs.declared.Parser.{Parser}
use Rattle.vp8_records.specs.Layout.{joined, flat_coeffs, flat_mv}

abbrev pub flagged : Bool → ℤ
flagged true = pos 1
flagged false = pos 0

abbrev pub groups : Parser → List (List ℤ)
groups p =
    -- segmentation: 15
    (flagged p.segmentation.segmentation_enabled
    ∷ flagged p.segmentation.update_mb_segmentation_map
    ∷ flagged p.segmentation.update_segment_feature_data
    ∷ flagged p.segmentation.segment_feature_mode
    ∷ [])
    ∷ p.segmentation.quantizer_update_value
    ∷ p.segmentation.lf_update_value
    ∷ map pos p.segmentation.segment_prob
    -- filter adjustments: 10
    ∷ (flagged p.mb_lf_adjust.loop_filter_adj_enable ∷ flagged p.mb_lf_adjust.mode_ref_lf_delta_update ∷ [])
    ∷ p.mb_lf_adjust.ref_frame_delta
    ∷ p.mb_lf_adjust.mb_mode_delta
    -- coefficients: 1,056
    ∷ map pos (flat_coeffs p.coeff_prob)
    -- motion: 38
    ∷ map pos (flat_mv p.mv_prob)
    -- modes: 7
    ∷ map pos p.mode_probs.intra_16x16_prob
    ∷ map pos p.mode_probs.intra_chroma_prob
    ∷ []

-- groups one after another
abbrev pub all : {A : Type 0} → List (List A) → List A
all gs = joined (λ g. g) gs

unfoldable pub numbers : Parser → List ℤ
numbers p = all (groups p)

-- number i of those
unfoldable pub kept : Parser → ℕ → ℤ
kept p i = get_or (numbers p) i (pos 0)
