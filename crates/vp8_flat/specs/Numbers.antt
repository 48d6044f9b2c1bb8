-- The numbers of a header, of a look and of an outcome, in the order of a dump line.
use Rattle.std.specs.Prelude.{ℕ, zero, suc, List, [], ◌∷◌, ◌++◌, get_or}
use Rattle.std.proofs.Common.{of_z}
use Rattle.std.specs.Int.{w8}
use Rattle.vp8_records.specs.declared.Header.{Header}
use Rattle.vp8_records.specs.declared.Look.{Look}
use Rattle.vp8_records.specs.declared.QuantIndices.{QuantIndices}
use Rattle.vp8_records.specs.Outcome.{Outcome, number_of, carried_by}
use Rattle.vp8_flat.specs.declared.header.Carried.{Carried}
use Rattle.vp8_flat.specs.Bytes.{bit_of}

-- a refusal's number and the two numbers it carries at most, 0 where there is none
abbrev pub carried_of : Outcome → Carried
carried_of o = record { number = number_of o; a = get_or (carried_by o) 0 0; b = get_or (carried_by o) 1 0 }

-- how many partitions hold coefficients (RFC 6386 section 9.5); a log2 above 3, which no frame codes, counts as 3
abbrev pub partition_count : ℕ → ℕ
partition_count zero = 1
partition_count (suc zero) = 2
partition_count (suc (suc zero)) = 4
partition_count (suc (suc (suc n))) = 8

abbrev pub shape_of : Header → List ℕ
shape_of h =
    bit_of h.key_frame
    ∷ h.version
    ∷ bit_of h.show_frame
    ∷ h.data_chunk_size
    ∷ h.first_part_size
    ∷ h.width
    ∷ h.height
    ∷ h.horiz_scale_code
    ∷ h.vert_scale_code
    ∷ bit_of h.color_space
    ∷ bit_of h.clamping_type
    ∷ bit_of h.filter_type
    ∷ h.loop_filter_level
    ∷ h.sharpness_level
    ∷ partition_count h.log2_nbr_of_dct_partitions
    ∷ h.log2_nbr_of_dct_partitions
    ∷ []

abbrev pub quant_of : QuantIndices → List ℕ
quant_of q =
    q.y_ac_qi
    ∷ of_z w8 q.y_dc_delta
    ∷ of_z w8 q.y2_dc_delta
    ∷ of_z w8 q.y2_ac_delta
    ∷ of_z w8 q.uv_dc_delta
    ∷ of_z w8 q.uv_ac_delta
    ∷ []

-- shape, partition sizes and quantizers, one after the other
abbrev pub front_numbers : Header → List ℕ
front_numbers h = shape_of h ++ (h.partition_size ++ quant_of h.quant_indices)

abbrev pub flags_of : Header → List ℕ
flags_of h =
    bit_of h.refresh_entropy_probs
    ∷ bit_of h.refresh_last
    ∷ bit_of h.refresh_golden_frame
    ∷ bit_of h.refresh_alternate_frame
    ∷ h.copy_buffer_to_golden
    ∷ h.copy_buffer_to_alternate
    ∷ bit_of h.sign_bias_golden
    ∷ bit_of h.sign_bias_alternate
    ∷ bit_of h.mb_no_coeff_skip
    ∷ h.prob_skip_false
    ∷ h.prob_intra
    ∷ h.prob_last
    ∷ h.prob_golden
    ∷ []

abbrev pub tail_of : Header → List ℕ
tail_of h =
    h.bd_range ∷ h.bd_value ∷ h.bd_count ∷ h.header_size ∷ h.bools ∷ h.mb_cols ∷ h.mb_rows ∷ h.past ∷ []

abbrev pub look_of : Look → List ℕ
look_of l =
    bit_of l.key_frame
    ∷ l.version
    ∷ bit_of l.show_frame
    ∷ l.first_part_size
    ∷ l.width
    ∷ l.height
    ∷ l.horiz_scale_code
    ∷ l.vert_scale_code
    ∷ []
