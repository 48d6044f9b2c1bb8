-- The number that bench/parse compares: the refusal, the numbers of the header and those kept, folded into a checksum. Of the coefficient
-- and the motion probabilities it takes one each, at a place that the position after the header tells.
use Rattle.std.specs.Prelude.{ℕ, ◌/◌, ◌%◌, List, [], ◌∷◌, ◌++◌, get_or, take}
use Rattle.vp8_records.specs.declared.CoeffProbs.{CoeffProbs}
use Rattle.vp8_records.specs.declared.MvProbs.{MvProbs}
use Rattle.vp8_records.specs.declared.ModeProbs.{ModeProbs}
use Rattle.vp8_records.specs.declared.Header.{Header}
use Rattle.vp8_records.specs.declared.Parser.{Parser}
use Rattle.vp8_records.specs.declared.Parsed.{Parsed}
use Rattle.vp8_records.specs.Layout.{coeff_at}
use Rattle.vp8_records.specs.Outcome.{number_of}
use Rattle.vp8_flat.specs.Bytes.{flat_modes, segmentation_bytes, adjustment_bytes}
use Rattle.vp8_flat.specs.Numbers.{front_numbers, flags_of, tail_of}
use Rattle.bench_sum.specs.Sum.{folds}

abbrev pub coefficient_at : CoeffProbs → ℕ → ℕ
coefficient_at c n = coeff_at c (n % 4) (n / 4 % 8) (n / 32 % 3) (n / 96 % 11)

-- past the end of a list stands an empty record, whose numbers are 0
abbrev pub motion_at : MvProbs → ℕ → ℕ
motion_at m n = get_or (get_or m.v (n % 2) (record { v = [] })).v (n / 2 % 19) 0

abbrev pub sample : CoeffProbs → MvProbs → ModeProbs → ℕ → List ℕ
sample c m modes n = (coefficient_at c n ∷ motion_at m n ∷ []) ++ flat_modes modes

-- all but the bools, the macroblock counts and the bits past the end, which the Rust does not have
abbrev pub back_numbers : Header → List ℕ
back_numbers h = flags_of h ++ take 4 (tail_of h)

abbrev pub header_numbers : Header → List ℕ
header_numbers h =
    front_numbers h ++ (back_numbers h ++ sample h.coeff_prob h.mv_prob h.mode_probs h.header_size)

abbrev pub kept_numbers : Parser → ℕ → List ℕ
kept_numbers p n =
    segmentation_bytes p.segmentation
    ++ (adjustment_bytes p.mb_lf_adjust ++ sample p.coeff_prob p.mv_prob p.mode_probs n)

unfoldable pub sum_of : Parsed → ℕ
sum_of a = folds (number_of a.outcome) (header_numbers a.header ++ kept_numbers a.parser a.header.header_size)
