-- The probabilities as flat runs. Those of the coefficients are one; those of motion are records, whose runs are joined: entry (i, j)
-- stands at 19i + j (proofs/Index.antt).
use Rattle.std.specs.Prelude.{ℕ, zero, suc, ◌+◌, ◌*◌, ◌<◌, List, [], ◌∷◌, ◌++◌, take, drop, slice_index, slice_index_or}
use Rattle.vp8_records.specs.declared.CoeffProbs.{CoeffProbs}
use Rattle.vp8_records.specs.declared.MvContext.{MvContext}
use Rattle.vp8_records.specs.declared.MvProbs.{MvProbs}

-- an entry of the coefficient probabilities: block type, band, context and place of the token tree (RFC 6386 section 13.3)
pub record Entry (i j k l : ℕ) : Type 0 where
  pub block : i < 4
  pub band : j < 8
  pub context : k < 3
  pub token : l < 11

-- where it stands in the run
abbrev pub coeff_index : ℕ → ℕ → ℕ → ℕ → ℕ
coeff_index i j k l = ((8 * i + j) * 3 + k) * 11 + l

abbrev pub coeff_at : CoeffProbs → ℕ → ℕ → ℕ → ℕ → ℕ
coeff_at r i j k l = slice_index r.v (coeff_index i j k l)

abbrev pub laid_coeffs : List ℕ → CoeffProbs
laid_coeffs xs = record { v = xs }

abbrev pub flat_coeffs : CoeffProbs → List ℕ
flat_coeffs r = r.v

-- k parts, each made of n numbers of a run
unfoldable pub rows : {A : Type 0} → ℕ → ℕ → (List ℕ → A) → List ℕ → List A
rows zero n f xs = []
rows (suc k) n f xs = f xs ∷ rows k n f (drop n xs)

-- the runs of all parts, in order
unfoldable pub joined : {A B : Type 0} → (A → List B) → List A → List B
joined f [] = []
joined f (x ∷ xs) = f x ++ joined f xs

-- the motion probabilities
abbrev pub laid_mv_context : List ℕ → MvContext
laid_mv_context xs = record { v = take 19 xs }

abbrev pub laid_mv : List ℕ → MvProbs
laid_mv xs = record { v = rows 2 19 laid_mv_context xs }

abbrev pub flat_mv_context : MvContext → List ℕ
flat_mv_context r = r.v

abbrev pub flat_mv : MvProbs → List ℕ
flat_mv r = joined flat_mv_context r.v

-- entry (i, j), component and place of its code (section 17.2), and its number in the run
abbrev pub mv_at : MvProbs → ℕ → ℕ → ℕ
mv_at r i j = slice_index (slice_index_or r.v i (record { v = [] })).v j

abbrev pub mv_index : ℕ → ℕ → ℕ
mv_index i j = 19 * i + j
