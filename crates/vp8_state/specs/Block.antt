-- The parser record as a block of bytes (docs/RULES.md, the block): the definition, from a record to its bytes, and when bytes are
-- refused as a block, or as a record to be written into one.
use Rattle.std.specs.Prelude.{ℕ, ◌/◌, ◌%◌, ◌↔◌, ◌≡◌, Bool, true, false, ◌&&◌, Result, Ok, Err, leb, ltb, eqb, nat_abs}
use Rattle.std.specs.Prelude.{List, [], ◌∷◌, ◌++◌, length, replicate, take, drop}
use Rattle.std.proofs.Common.{to_z}
use Rattle.std.specs.Int.{w8}
use Rattle.vp8_records.specs.declared.Parser.{Parser}
use Rattle.vp8_records.specs.Layout.{flat_coeffs, flat_mv}
use Rattle.rfc6386.specs.Decoder.{pick}
use Rattle.rfc6386_history.specs.Kept.{all}
use Rattle.vp8_flat.specs.Bytes.{segmentation_bytes, adjustment_bytes, flat_modes}
use Rattle.vp8_state.specs.declared.Kind.{Kind}
use Rattle.vp8_state.specs.declared.Kind.TheVariants.{Any, Flag, UpTo}
use Rattle.vp8_state.specs.declared.BlockRefusal.{BlockRefusal}
use Rattle.vp8_state.specs.declared.BlockRefusal.TheVariants.{OtherSize, OtherHeading, Fault}

-- a number of two bytes, the low one first
abbrev pub le : ℕ → List ℕ
le n = n % 256 ∷ n / 256 ∷ []

-- how many sections there are, then offset and length of each
unfoldable pub heading : List ℕ
heading = le 5 ++ le 22 ++ le 15 ++ le 37 ++ le 10 ++ le 47 ++ le 1056 ++ le 1103 ++ le 38 ++ le 1141 ++ le 7

-- segmentation, filter adjustments, coefficients, motion and modes, a byte a number, signed ones in two's complement
abbrev pub sections : Parser → List (List ℕ)
sections p =
    segmentation_bytes p.segmentation
    ∷ adjustment_bytes p.mb_lf_adjust
    ∷ flat_coeffs p.coeff_prob
    ∷ flat_mv p.mv_prob
    ∷ flat_modes p.mode_probs
    ∷ []

-- the flat record: 1,126 bytes
unfoldable pub record_bytes : Parser → List ℕ
record_bytes p = all (sections p)

-- the block: 1,148
unfoldable pub block : Parser → List ℕ
block p = heading ++ record_bytes p

-- a test of each entry of a table with the byte at its place
unfoldable pub agree : {K : Type 0} → (K → ℕ → Bool) → List K → List ℕ → Bool
agree t [] bs = true
agree t (k ∷ ks) [] = false
agree t (k ∷ ks) (b ∷ bs) = t k b && agree t ks bs

-- what a byte may be: anything, a flag, or a signed number of at most this magnitude
abbrev pub allows : Kind → ℕ → Bool
allows Any b = true
allows Flag b = ltb b 2
allows (UpTo n) b = leb (nat_abs (to_z w8 b)) n

-- segmentation: four flags, the quantizers, the filter levels, the probabilities; adjustments: two flags, eight deltas
unfoldable pub kinds : List Kind
kinds =
    replicate 4 Flag ++ (replicate 4 (UpTo 127) ++ (replicate 4 (UpTo 63) ++ (replicate 3 Any
    ++ (replicate 2 Flag ++ (replicate 4 (UpTo 63) ++ (replicate 4 (UpTo 63) ++ []))))))

-- no fault in the bytes of a record; no probability is one
abbrev pub faultless : List ℕ → Bool
faultless bs = agree allows kinds bs

-- whether bytes are taken, or by which refusal not
abbrev pub Verdict : Type 0
Verdict = Result (Unit {0}) BlockRefusal

-- the number of each refusal; 0 for none
abbrev pub refusal_of : Verdict → ℕ
refusal_of (Ok e) = 0
refusal_of (Err OtherSize) = 13
refusal_of (Err OtherHeading) = 14
refusal_of (Err Fault) = 15

-- on bytes that are given as a block, in order of checking
unfoldable pub block_verdict : List ℕ → Verdict
block_verdict b =
    pick (eqb (length b) 1148)
    (pick (agree eqb heading b) (pick (faultless (drop 22 b)) (Ok tt) (Err Fault)) (Err OtherHeading))
    (Err OtherSize)

-- on the bytes s of a record that are to be written into the buffer b
unfoldable pub write_verdict : List ℕ → List ℕ → Verdict
write_verdict s b = pick (eqb (length b) 1148) (pick (faultless s) (Ok tt) (Err Fault)) (Err OtherSize)

-- where a flat record is lent or given too: 13 also where it has another size than 1,126 bytes
abbrev pub flat : List ℕ → Verdict → Verdict
flat s v = pick (eqb (length s) 1126) v (Err OtherSize)

-- each refusal of a block exactly when, and when there is none
pub record Causes (b : List ℕ) : Type 0 where
  pub thirteen : (refusal_of (block_verdict b) ≡ 13) ↔ (length b ≡ 1148 → ⊥)
  pub fourteen : (refusal_of (block_verdict b) ≡ 14) ↔ ((length b ≡ 1148) × (take 22 b ≡ heading → ⊥))
  pub fifteen : (refusal_of (block_verdict b) ≡ 15) ↔ ((length b ≡ 1148) × (take 22 b ≡ heading) × (faultless (drop 22 b) ≡ false))
  pub none : (refusal_of (block_verdict b) ≡ 0) ↔ ((length b ≡ 1148) × (take 22 b ≡ heading) × (faultless (drop 22 b) ≡ true))
