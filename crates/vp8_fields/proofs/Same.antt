-- Any two answers that a contract admits are equal: one tree from one decoder gives one value, goes one number of bits past the end and
-- leaves one decoder, by `same_passed`.
use Prim.Native.Nat.{ℕ}
use mathlib.Core.Path.{◌≡◌}
use mathlib.Core.List.{List}
use Rattle.vp8_records.specs.declared.CoeffProbs.{CoeffProbs}
use Rattle.vp8_records.specs.declared.MbLfAdjustments.{MbLfAdjustments}
use Rattle.vp8_records.specs.declared.Mode.{Mode}
use Rattle.vp8_records.specs.declared.MvProbs.{MvProbs}
use Rattle.vp8_records.specs.declared.QuantIndices.{QuantIndices}
use Rattle.vp8_records.specs.declared.Segmentation.{Segmentation}
use Rattle.rfc6386.specs.Reads.{make}
use Rattle.rfc6386.specs.Coded.{segments, deltas, quant, coefficients, motion, modes}
use Rattle.rfc6386.specs.Call.{segmented, adjusted, coeffs_over, mv_over}
use Rattle.bool_decoder.specs.Model.{Passed}
use Rattle.bool_decoder.specs.declared.BoolDecoder.{BoolDecoder}
use Rattle.vp8_fields.specs.Rows.{onto}
use Rattle.bool_decoder.proofs.Same.{same_passed}

module _ {d e f : BoolDecoder} where
  pub update_segmentation : (md : Mode) (seg : Segmentation) {r q : Segmentation} {m n : ℕ}
      → Passed (make (λ c. segmented c seg) (segments md)) d r m e 99 → Passed (make (λ c. segmented c seg) (segments md)) d q n f 99
      → (r ≡ q) × (m ≡ n) × (e ≡ f)
  update_segmentation md seg = same_passed

  pub parse_mb_lf_adjustments : (adj : MbLfAdjustments) {r q : MbLfAdjustments} {m n : ℕ}
      → Passed (make (λ c. adjusted c adj) deltas) d r m e 66 → Passed (make (λ c. adjusted c adj) deltas) d q n f 66
      → (r ≡ q) × (m ≡ n) × (e ≡ f)
  parse_mb_lf_adjustments adj = same_passed

  pub parse_quant_indices : {r q : QuantIndices} {m n : ℕ} → Passed quant d r m e 37 → Passed quant d q n f 37
      → (r ≡ q) × (m ≡ n) × (e ≡ f)
  parse_quant_indices = same_passed

  pub parse_token_prob_update : (old : CoeffProbs) {r q : CoeffProbs} {m n : ℕ}
      → Passed (make (λ us. coeffs_over us old) coefficients) d r m e 9504
      → Passed (make (λ us. coeffs_over us old) coefficients) d q n f 9504 → (r ≡ q) × (m ≡ n) × (e ≡ f)
  parse_token_prob_update old = same_passed

  pub parse_mv_prob_update : (old : MvProbs) {r q : MvProbs} {m n : ℕ} → Passed (make (λ us. mv_over us old) motion) d r m e 304
      → Passed (make (λ us. mv_over us old) motion) d q n f 304 → (r ≡ q) × (m ≡ n) × (e ≡ f)
  parse_mv_prob_update old = same_passed

  pub parse_intra_16x16_prob_update : (old : List ℕ) {r q : List ℕ} {m n : ℕ} → Passed (onto old (modes 4)) d r m e 33
      → Passed (onto old (modes 4)) d q n f 33 → (r ≡ q) × (m ≡ n) × (e ≡ f)
  parse_intra_16x16_prob_update old = same_passed

  pub parse_intra_chroma_prob_update : (old : List ℕ) {r q : List ℕ} {m n : ℕ} → Passed (onto old (modes 3)) d r m e 25
      → Passed (onto old (modes 3)) d q n f 25 → (r ≡ q) × (m ≡ n) × (e ≡ f)
  parse_intra_chroma_prob_update old = same_passed
