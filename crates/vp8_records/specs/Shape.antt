-- The shape of a parser: the lengths of its arrays, as its type has them.
use Rattle.std.specs.Prelude.{◌≡◌, ℕ, List, [], ◌∷◌, length}
use Rattle.vp8_records.specs.declared.CoeffProbs.{CoeffProbs}
use Rattle.vp8_records.specs.declared.MvContext.{MvContext}
use Rattle.vp8_records.specs.declared.MvProbs.{MvProbs}
use Rattle.vp8_records.specs.declared.Parser.{Parser}

abbrev pub Every : {A : Type 0} → (A → Type 0) → List A → Type 0
Every P [] = Unit {0}
Every P (x ∷ xs) = P x × Every P xs

-- an array of n, each of them of shape P
abbrev pub Each : {A : Type 0} → ℕ → (A → Type 0) → List A → Type 0
Each n P xs = (length xs ≡ n) × Every P xs

abbrev pub SizedCoeffs : CoeffProbs → Type 0
SizedCoeffs r = length r.v ≡ 1056

abbrev pub SizedMvContext : MvContext → Type 0
SizedMvContext r = length r.v ≡ 19

abbrev pub SizedMv : MvProbs → Type 0
SizedMv r = Each 2 SizedMvContext r.v

pub record Sized (p : Parser) : Type 0 where
  pub quantizers : length p.segmentation.quantizer_update_value ≡ 4
  pub levels : length p.segmentation.lf_update_value ≡ 4
  pub probs : length p.segmentation.segment_prob ≡ 3
  pub frames : length p.mb_lf_adjust.ref_frame_delta ≡ 4
  pub modes : length p.mb_lf_adjust.mb_mode_delta ≡ 4
  pub coeffs : SizedCoeffs p.coeff_prob
  pub motion : SizedMv p.mv_prob
  pub luma : length p.mode_probs.intra_16x16_prob ≡ 4
  pub chroma : length p.mode_probs.intra_chroma_prob ≡ 3
