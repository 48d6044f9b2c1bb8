-- Where an entry of the probabilities stands. What the rule of the coefficients' run says is linear arithmetic. In parts of n numbers each,
-- number m of part i stands at i · n + m, by induction over the parts; once a level, that is the same rule for nested records.
use Rattle.std.proofs.Common.{◌≡◌, ℕ, zero, suc, ◌+◌, ◌*◌, ◌/◌, ◌%◌, ◌<◌, List, [], ◌∷◌, ◌++◌, length, get_or, sym, ap, ◌∙◌, append-nil, suc-mul, zero-mul, arith, take_all, get_or-append-add}
use lib.ListN.{get_or-append}
use Rattle.vp8_records.specs.declared.CoeffProbs.{CoeffProbs}
use Rattle.vp8_records.specs.declared.MvProbs.{MvProbs}
use Rattle.vp8_records.specs.Layout.{Entry, coeff_index, coeff_at, joined, flat_mv_context, flat_mv, mv_at, mv_index}
use Rattle.vp8_records.specs.Nested.{Nested, laid_nested, flat_tokens, flat_contexts, flat_bands, flat_nested, nest, nested_at, SizedTokens, SizedContexts, SizedBands, SizedNested}
use Rattle.vp8_records.specs.Shape.{Every, SizedCoeffs, SizedMvContext, SizedMv}
use Rattle.vp8_records.proofs.Parts.{tokens, contexts, bands, nested, mv_context}

every_at : {A : Type 0} (P : A → Type 0) (xs : List A) (x : A) (i : ℕ) → Every P xs → i < length xs → P (get_or xs i x)
every_at P [] x i g h = absurd (omega (arith, h))
every_at P (y ∷ ys) x zero g h = g.0
every_at P (y ∷ ys) x (suc i) g h = every_at P ys x i g.1 (omega (arith, h))

-- parts of n numbers each
module _ {A : Type 0} (flat : A → List ℕ) (n : ℕ) (Good : A → Type 0) (size : (x : A) → Good x → length (flat x) ≡ n) (x : A) where
  joined_at : (xs : List A) (i m : ℕ) → Every Good xs → i < length xs → m < n
      → get_or (joined flat xs) (i * n + m) 0 ≡ get_or (flat (get_or xs i x)) m 0
  unfolding joined
  joined_at [] i m g h l = absurd (omega (arith, h))
  joined_at (y ∷ ys) zero m g h l =
      let e : 0 * n + m ≡ m = omega (arith, zero-mul n) in
      ap (λ (k : ℕ). get_or (flat y ++ joined flat ys) k 0) e
      ∙ get_or-append (flat y) (joined flat ys) 0 m (omega (arith, l, size y g.0))
  joined_at (y ∷ ys) (suc i) m g h l =
      let e : suc i * n + m ≡ length (flat y) + (i * n + m) = omega (arith, suc-mul i n, size y g.0) in
      ap (λ (k : ℕ). get_or (flat y ++ joined flat ys) k 0) e
      ∙ get_or-append-add (flat y) (joined flat ys) (i * n + m) 0
      ∙ joined_at ys i m g.1 (omega (arith, h)) l

-- by the rule an entry stands within the run, and no two entries share a place
pub record Ruled (i j k l : ℕ) : Type 0 where
  pub within : coeff_index i j k l < 1056
  pub apart : (i' j' k' l' : ℕ) → Entry i' j' k' l' → coeff_index i j k l ≡ coeff_index i' j' k' l'
      → (i ≡ i') × (j ≡ j') × (k ≡ k') × (l ≡ l')

pub ruled : (i j k l : ℕ) → Entry i j k l → Ruled i j k l
ruled i j k l e = record {
  within = omega (arith, e.block, e.band, e.context, e.token);
  apart = λ i' j' k' l' f h. (
    omega (arith, e.band, e.context, e.token, f.band, f.context, f.token, h),
    omega (arith, e.band, e.context, e.token, f.band, f.context, f.token, h),
    omega (arith, e.context, e.token, f.context, f.token, h),
    omega (arith, e.token, f.token, h),
  );
}

-- and each place is some entry's
pub filled : (n : ℕ) → n < 1056 → Entry (n / 11 / 3 / 8) (n / 11 / 3 % 8) (n / 11 % 3) (n % 11)
    × (coeff_index (n / 11 / 3 / 8) (n / 11 / 3 % 8) (n / 11 % 3) (n % 11) ≡ n)
filled n h = (record { block = omega (arith, h); band = omega arith; context = omega arith; token = omega arith }, omega arith)

-- a nested entry, in the run of its records
pub nested_index : (r : Nested) → SizedNested r → (i j k l : ℕ) → Entry i j k l
    → get_or (flat_nested r) (coeff_index i j k l) 0 ≡ nested_at r i j k l
nested_index r s i j k l e =
    let at_type = get_or r.v i (record { v = [] }) in
    let sized_type : SizedBands at_type = every_at SizedBands r.v _ i s.1 (omega (arith, s.0, e.block)) in
    let at_band = get_or at_type.v j (record { v = [] }) in
    let sized_band : SizedContexts at_band =
    every_at SizedContexts at_type.v _ j sized_type.1 (omega (arith, sized_type.0, e.band)) in
    let same : coeff_index i j k l ≡ i * 264 + (j * 33 + (k * 11 + l)) = omega arith in
    ap (λ (m : ℕ). get_or (flat_nested r) m 0) same
    ∙ joined_at flat_bands 264 SizedBands bands.size (record { v = [] }) r.v i _ s.1 (omega (arith, s.0, e.block))
    (omega (arith, e.band, e.context, e.token))
    ∙ joined_at flat_contexts 33 SizedContexts contexts.size (record { v = [] }) at_type.v j _ sized_type.1
    (omega (arith, sized_type.0, e.band))
    (omega (arith, e.context, e.token))
    ∙ joined_at flat_tokens 11 SizedTokens tokens.size (record { v = [] }) at_band.v k l sized_band.1
    (omega (arith, sized_band.0, e.context)) e.token

-- laid out, the run is nested records of the right shape, whose run it is
module _ (c : CoeffProbs) (s : SizedCoeffs c) where
  pub nest_sized : SizedNested (nest c)
  nest_sized = nested.good c.v (omega (arith, s))

  pub flat_nest : flat_nested (nest c) ≡ c.v
  flat_nest = nested.there c.v (omega (arith, s)) ∙ take_all 1056 c.v (omega (arith, s))

  -- so both hold the same entries
  pub coeff_index_lem : (i j k l : ℕ) → Entry i j k l → coeff_at c i j k l ≡ nested_at (nest c) i j k l
  coeff_index_lem i j k l e =
      ap (λ (xs : List ℕ). get_or xs (coeff_index i j k l) 0) (sym flat_nest) ∙ nested_index (nest c) nest_sized i j k l e

-- and nested records of the right shape are those of their run
pub nest_flat : (r : Nested) → SizedNested r → laid_nested (flat_nested r) ≡ r
nest_flat r s = ap (λ (xs : List ℕ). laid_nested xs) (sym (append-nil (flat_nested r))) ∙ nested.back r s []

pub mv_index_lem : (r : MvProbs) → SizedMv r → (i j : ℕ) → i < 2 → j < 19 → get_or (flat_mv r) (mv_index i j) 0 ≡ mv_at r i j
mv_index_lem r s i j hi hj =
    let same : mv_index i j ≡ i * 19 + j = omega arith in
    ap (λ (m : ℕ). get_or (flat_mv r) m 0) same
    ∙ joined_at flat_mv_context 19 SizedMvContext mv_context.size (record { v = [] }) r.v i j s.1 (omega (arith, s.0)) hj
