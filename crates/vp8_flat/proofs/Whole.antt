-- The records of a parser, put one after the other, are its kept numbers: both are the same groups in the same order, a byte each.
use Prim.Native.Nat.{ℕ, zero, suc, ◌%◌, ◌^◌, ◌≤◌}
use native.Mathlib.Omega.{arith}
use mathlib.Core.Path.{◌≡◌, refl, ap, ◌∙◌}
use mathlib.Core.Bool.{Bool, true, false}
use mathlib.Core.List.{List, [], ◌∷◌, ◌++◌, map, map-append, append_assoc, append-nil}
use lib.IntN.{pos}
use lib.ListN.{length, length-map}
use mir.Val.{of_z}
use mir.Syntax.{w8}
use Rattle.vp8_records.specs.declared.Header.{Header}
use Rattle.vp8_records.specs.declared.Parser.{Parser}
use Rattle.vp8_records.specs.Length.{partitions_of}
use Rattle.vp8_records.specs.Layout.{joined, flat_coeffs, flat_mv}
use Rattle.vp8_records.specs.Shape.{Sized}
use Rattle.rfc6386_history.specs.Kept.{flagged, numbers}
use Rattle.rfc6386_history.proofs.Numbers.{how_many}
use Rattle.vp8_flat.specs.Numbers.{partition_count}
use Rattle.vp8_flat.specs.Bytes.{bit_of, flat_modes, segmentation_bytes, adjustment_bytes, kept_bytes}

bytes_back : (xs : List ℕ) → map (of_z w8) (map pos xs) ≡ xs
bytes_back [] = refl
bytes_back (x ∷ xs) = ap (λ (l : List ℕ). x ∷ l) (bytes_back xs)

bit_is : (b : Bool) → of_z w8 (flagged b) ≡ bit_of b
bit_is true = refl
bit_is false = refl

pub kept_is : (p : Parser)
    → segmentation_bytes p.segmentation
    ++ (adjustment_bytes p.mb_lf_adjust ++ (flat_coeffs p.coeff_prob ++ (flat_mv p.mv_prob ++ flat_modes p.mode_probs)))
    ≡ kept_bytes p
unfolding kept_bytes numbers joined
kept_is p = simp (map-append, bytes_back, bit_is, append_assoc, append-nil)

-- there are 1,126
pub how_long : (p : Parser) → Sized p → length (kept_bytes p) ≡ 1126
unfolding kept_bytes
how_long p s = length-map (numbers p) (of_z w8) ∙ how_many p s

-- of a header that a frame has, the number of partitions is the Rust's shift
counted : (n : ℕ) → n ≤ 3 → partition_count n ≡ 2 ^ (n % 64)
counted zero h = refl
counted (suc zero) h = refl
counted (suc (suc zero)) h = refl
counted (suc (suc (suc zero))) h = refl
counted (suc (suc (suc (suc n)))) h = absurd (omega arith)

pub count_is : (h : Header) → h.log2_nbr_of_dct_partitions ≤ 3 → partition_count h.log2_nbr_of_dct_partitions ≡ partitions_of h
count_is h = counted h.log2_nbr_of_dct_partitions
