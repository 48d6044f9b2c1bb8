-- Bytes without fault are those of the record that they lay out, and a record is the one that its bytes lay out: both by the eleven pieces
-- of which a record's bytes are made, each a part of them.
use Prim.Native.Nat.{ℕ, zero, suc, ◌+◌, ◌≤◌, ◌<◌}
use native.Mathlib.Omega.{arith}
use native.Mathlib.Nat.{add-zero, le_of_suc-le-suc, not-suc-le-zero}
use mathlib.Core.Path.{◌≡◌, refl, ap, ap₂, sym, subst, ◌∙◌}
use mathlib.Core.Bool.{Bool, true, false, ◌&&◌, false≢true}
use mathlib.Core.List.{List, [], ◌∷◌, ◌++◌, map, append_assoc, append-nil}
use borrow.Author.Tests.{ltb-true, leb-true}
use lib.Dec.{eqb, ltb, lit<, lit≤}
use lib.IntN.{ℤ, pos, negsuc}
use lib.ListN.{length, get_or, take, drop, length-drop, length-map, take-append-drop}
use lib.Seq.{take_all, take_at, drop_at, drop-length, drop-drop, drop-cons, get_or-take, get_or-drop, length-take-le}
use mir.Syntax.{w8}
use mir.Val.{Fits, SFits, to_z, of_z}
use mir.ValLaws.{of_z-to_z, to_z-of_z}
use Rattle.vp8_records.specs.declared.Parser.{Parser}
use Rattle.vp8_records.specs.declared.MvProbs.{MvProbs}
use Rattle.vp8_records.specs.Layout.{joined, flat_coeffs, flat_mv, laid_mv}
use Rattle.vp8_records.specs.Shape.{Every, Sized}
use Rattle.vp8_records.proofs.Parts.{mv}
use Rattle.rfc6386.specs.Frame.{sum}
use Rattle.rfc6386.specs.Holds.{Within}
use Rattle.rfc6386_history.specs.Kept.{all}
use Rattle.rfc6386_history.specs.Sound.{Sound}
use Rattle.rfc6386_history.proofs.Numbers.{length_all}
use Rattle.vp8_flat.specs.Bytes.{bit_of}
use Rattle.vp8_state.specs.declared.Kind.{Kind}
use Rattle.vp8_state.specs.declared.Kind.TheVariants.{Any, Flag, UpTo}
use Rattle.vp8_state.specs.Block.{record_bytes, agree, allows, kinds, faultless}
use Rattle.vp8_state.specs.Laid.{part, flag_at, signed_at, parser_of}

-- what a record of the machine is: its arrays as long as their types say, its signed numbers in range
pub record Typed (p : Parser) : Type 0 where
  pub sized : Sized p
  pub quantizers : Every (SFits w8) p.segmentation.quantizer_update_value
  pub levels : Every (SFits w8) p.segmentation.lf_update_value
  pub frames : Every (SFits w8) p.mb_lf_adjust.ref_frame_delta
  pub modes : Every (SFits w8) p.mb_lf_adjust.mb_mode_delta

pub fits : (n : ℕ) → n < 128 → (z : ℤ) → Within n z → SFits w8 z
fits n l (pos m) h = record { sfits = omega arith }
fits n l (negsuc m) h = record { sfits = omega arith }

all_fit : (n : ℕ) → n < 128 → (zs : List ℤ) → Every (Within n) zs → Every (SFits w8) zs
all_fit n l [] g = tt
all_fit n l (z ∷ zs) g = (fits n l z g.0, all_fit n l zs g.1)

pub sound_typed : (p : Parser) → Sound p → Typed p
sound_typed p s = record {
  sized = s.sized;
  quantizers = all_fit 127 (lit< tt) p.segmentation.quantizer_update_value s.quantizers;
  levels = all_fit 63 (lit< tt) p.segmentation.lf_update_value s.levels;
  frames = all_fit 63 (lit< tt) p.mb_lf_adjust.ref_frame_delta s.frames;
  modes = all_fit 63 (lit< tt) p.mb_lf_adjust.mb_mode_delta s.modes;
}

-- the groups of a record's bytes, and their lengths
abbrev pub pieces : Parser → List (List ℕ)
pieces p =
    (bit_of p.segmentation.segmentation_enabled
    ∷ bit_of p.segmentation.update_mb_segmentation_map
    ∷ bit_of p.segmentation.update_segment_feature_data
    ∷ bit_of p.segmentation.segment_feature_mode
    ∷ [])
    ∷ map (of_z w8) p.segmentation.quantizer_update_value
    ∷ map (of_z w8) p.segmentation.lf_update_value
    ∷ p.segmentation.segment_prob
    ∷ (bit_of p.mb_lf_adjust.loop_filter_adj_enable ∷ bit_of p.mb_lf_adjust.mode_ref_lf_delta_update ∷ [])
    ∷ map (of_z w8) p.mb_lf_adjust.ref_frame_delta
    ∷ map (of_z w8) p.mb_lf_adjust.mb_mode_delta
    ∷ flat_coeffs p.coeff_prob
    ∷ flat_mv p.mv_prob
    ∷ p.mode_probs.intra_16x16_prob
    ∷ p.mode_probs.intra_chroma_prob
    ∷ []

pub in_pieces : (p : Parser) → record_bytes p ≡ all (pieces p)
unfolding record_bytes joined
in_pieces p = simp (append_assoc, append-nil)

abbrev sizes : List ℕ
sizes = 4 ∷ 4 ∷ 4 ∷ 3 ∷ 2 ∷ 4 ∷ 4 ∷ 1056 ∷ 38 ∷ 4 ∷ 3 ∷ []

pub signed_size : (xs : List ℤ) {n : ℕ} → length xs ≡ n → length (map (of_z w8) xs) ≡ n
signed_size xs h = length-map xs (of_z w8) ∙ h

sizes_are : (p : Parser) → Sized p → map length (pieces p) ≡ sizes
sizes_are p s =
    λ i.
    4
    ∷ signed_size p.segmentation.quantizer_update_value s.quantizers i
    ∷ signed_size p.segmentation.lf_update_value s.levels i
    ∷ s.probs i
    ∷ 2
    ∷ signed_size p.mb_lf_adjust.ref_frame_delta s.frames i
    ∷ signed_size p.mb_lf_adjust.mb_mode_delta s.modes i
    ∷ s.coeffs i
    ∷ mv.size p.mv_prob s.motion i
    ∷ s.luma i
    ∷ s.chroma i
    ∷ []

pub record_size : (p : Parser) → Sized p → length (record_bytes p) ≡ 1126
unfolding sum
record_size p s = ap length (in_pieces p) ∙ length_all (pieces p) ∙ ap sum (sizes_are p s)

-- group i is the part that the lengths before it and its own tell
pub part_is : (i : ℕ) (gs : List (List ℕ)) (ns : List ℕ) → map length gs ≡ ns → i < length ns
    → part (sum (take i ns)) (get_or ns i 0) (all gs) ≡ get_or gs i []
unfolding joined sum
part_is i [] [] e h = absurd (not-suc-le-zero h)
part_is i [] (n ∷ ns) e h = absurd (let z : ◌≡◌ {A = ℕ} 0 1 = cc in omega arith)
part_is i (g ∷ gs) [] e h = absurd (not-suc-le-zero h)
part_is zero (g ∷ gs) (n ∷ ns) e h = take_at g (all gs) n cc
part_is (suc i) (g ∷ gs) (n ∷ ns) e h =
    let m : length g ≡ n = cc in
    let ms : map length gs ≡ ns = cc in
    ap (λ (l : List ℕ). take (get_or ns i 0) l)
    (sym (drop-drop (sum (take i ns)) n (g ++ all gs)) ∙ ap (λ (l : List ℕ). drop (sum (take i ns)) l) (drop_at g (all gs) n m))
    ∙ part_is i gs ns ms (le_of_suc-le-suc h)

-- byte k of a part
in_part : (at n k : ℕ) (b : List ℕ) → k < n → get_or b (at + k) 0 ≡ get_or (part at n b) k 0
in_part at n k b h = sym (get_or-take n (drop at b) k 0 h ∙ get_or-drop at b k 0)

bit_back : (b : Bool) → eqb (bit_of b) 1 ≡ b
bit_back true = refl
bit_back false = refl

signs_back : (zs : List ℤ) → Every (SFits w8) zs → map (to_z w8) (map (of_z w8) zs) ≡ zs
signs_back [] g = refl
signs_back (z ∷ zs) g = ap₂ {C = List ℤ} (λ y ys. y ∷ ys) (to_z-of_z w8 z g.0) (signs_back zs g.1)

-- the record of a record's bytes
pub record_back : (p : Parser) → Typed p → parser_of (record_bytes p) ≡ p
unfolding parser_of sum
record_back p t =
    λ i. record {
      segmentation = record {
        segmentation_enabled = flag 0 4 0 p.segmentation.segmentation_enabled (lit< tt) (piece 0 (lit< tt)) refl i;
        update_mb_segmentation_map = flag 0 4 1 p.segmentation.update_mb_segmentation_map (lit< tt) (piece 0 (lit< tt)) refl i;
        update_segment_feature_data = flag 0 4 2 p.segmentation.update_segment_feature_data (lit< tt) (piece 0 (lit< tt)) refl i;
        segment_feature_mode = flag 0 4 3 p.segmentation.segment_feature_mode (lit< tt) (piece 0 (lit< tt)) refl i;
        quantizer_update_value = signs 4 p.segmentation.quantizer_update_value (piece 1 (lit< tt)) t.quantizers i;
        lf_update_value = signs 8 p.segmentation.lf_update_value (piece 2 (lit< tt)) t.levels i;
        segment_prob = piece 3 (lit< tt) i;
      };
      mb_lf_adjust = record {
        loop_filter_adj_enable = flag 15 2 0 p.mb_lf_adjust.loop_filter_adj_enable (lit< tt) (piece 4 (lit< tt)) refl i;
        mode_ref_lf_delta_update = flag 15 2 1 p.mb_lf_adjust.mode_ref_lf_delta_update (lit< tt) (piece 4 (lit< tt)) refl i;
        ref_frame_delta = signs 17 p.mb_lf_adjust.ref_frame_delta (piece 5 (lit< tt)) t.frames i;
        mb_mode_delta = signs 21 p.mb_lf_adjust.mb_mode_delta (piece 6 (lit< tt)) t.modes i;
      };
      coeff_prob = record { v = piece 7 (lit< tt) i };
      mv_prob = motion i;
      mode_probs = record { intra_16x16_prob = piece 9 (lit< tt) i; intra_chroma_prob = piece 10 (lit< tt) i };
    }
  where
    piece : (j : ℕ) → j < 11 → part (sum (take j sizes)) (get_or sizes j 0) (record_bytes p) ≡ get_or (pieces p) j []
    piece j h =
        ap (λ (l : List ℕ). part (sum (take j sizes)) (get_or sizes j 0) l) (in_pieces p)
        ∙ part_is j (pieces p) sizes (sizes_are p t.sized) h

    flag : (at n k : ℕ) (f : Bool) {g : List ℕ} → k < n → part at n (record_bytes p) ≡ g → get_or g k 0 ≡ bit_of f
        → flag_at (at + k) (record_bytes p) ≡ f
    flag at n k f h e d =
        ap (λ (x : ℕ). eqb x 1) (in_part at n k (record_bytes p) h ∙ ap (λ (l : List ℕ). get_or l k 0) e ∙ d) ∙ bit_back f

    signs : (at : ℕ) (zs : List ℤ) → part at 4 (record_bytes p) ≡ map (of_z w8) zs → Every (SFits w8) zs → signed_at at (record_bytes p) ≡ zs
    signs at zs e g = ap (λ (l : List ℕ). map (to_z w8) l) e ∙ signs_back zs g

    motion : laid_mv (part 1081 38 (record_bytes p)) ≡ p.mv_prob
    motion =
        ap {B = MvProbs} laid_mv (piece 8 (lit< tt) ∙ sym (append-nil (flat_mv p.mv_prob)))
        ∙ mv.back p.mv_prob t.sized.motion []

pub both : (a b : Bool) → a && b ≡ true → (a ≡ true) × (b ≡ true)
both true b h = (refl, h)
both false b h = absurd (false≢true h)

-- each test of a table that agrees
agree_at : {K : Type 0} (t : K → ℕ → Bool) (d : K) (ks : List K) (bs : List ℕ) → agree t ks bs ≡ true → (i : ℕ) → i < length ks
    → t (get_or ks i d) (get_or bs i 0) ≡ true
unfolding agree
agree_at t d [] bs h i g = absurd (not-suc-le-zero g)
agree_at t d (k ∷ ks) [] h i g = absurd (false≢true h)
agree_at t d (k ∷ ks) (b ∷ bs) h zero g = (both (t k b) (agree t ks bs) h).0
agree_at t d (k ∷ ks) (b ∷ bs) h (suc i) g = agree_at t d ks bs (both (t k b) (agree t ks bs) h).1 i (le_of_suc-le-suc g)

flag_back : (x : ℕ) → ltb x 2 ≡ true → bit_of (eqb x 1) ≡ x
flag_back zero h = refl
flag_back (suc zero) h = refl
flag_back (suc (suc x)) h = absurd (omega (arith, ltb-true (suc (suc x)) 2 h))

bytes_signed : (xs : List ℕ) → Every (Fits w8) xs → map (of_z w8) (map (to_z w8) xs) ≡ xs
bytes_signed [] g = refl
bytes_signed (x ∷ xs) g = ap₂ {C = List ℕ} (λ y ys. y ∷ ys) (of_z-to_z w8 x g.0) (bytes_signed xs g.1)

every : (P : ℕ → Type 0) (xs : List ℕ) → ((i : ℕ) → i < length xs → P (get_or xs i 0)) → Every P xs
every P [] h = tt
every P (x ∷ xs) h = (h 0 (omega arith), every P xs (λ i g. h (suc i) (omega arith)))

-- a list of bytes, as a slice is
abbrev pub Bytes : List ℕ → Type 0
Bytes b = (i : ℕ) → Fits w8 (get_or b i 0)

module _ (b : List ℕ) (size : length b ≡ 1126) where
  part_size : (at n : ℕ) → at + n ≤ 1126 → length (part at n b) ≡ n
  part_size at n h = length-take-le n (drop at b) (simp length-drop (omega (arith, size)))

  -- what holds of the bytes of a part
  over_part : (P : ℕ → Type 0) (at n : ℕ) → at + n ≤ 1126 → ((i : ℕ) → i < n → P (get_or b (at + i) 0)) → Every P (part at n b)
  over_part P at n h g =
      every P (part at n b) (λ i l.
      let j : i < n = omega (arith, part_size at n h) in
      subst P (in_part at n i b j) (g i j))

  one : (at : ℕ) {x : ℕ} {rest : List ℕ} → at < 1126 → x ≡ get_or b at 0 → rest ≡ drop (suc at) b → x ∷ rest ≡ drop at b
  one at h e d = ap₂ {C = List ℕ} (λ x xs. x ∷ xs) e d ∙ sym (drop-cons b at 0 (omega (arith, size)))

  step : (at n : ℕ) {xs rest : List ℕ} → xs ≡ part at n b → rest ≡ drop (at + n) b → xs ++ rest ≡ drop at b
  step at n e d =
      ap₂ {C = List ℕ} (λ xs ys. xs ++ ys) e (d ∙ sym (drop-drop n at b))
      ∙ take-append-drop n (drop at b)

  module _ (fine : faultless b ≡ true) where
    allowed : (i : ℕ) → i < 25 → allows (get_or kinds i Any) (get_or b i 0) ≡ true
    unfolding kinds
    allowed i h = agree_at allows Any kinds b fine i h

    flag : (i : ℕ) → i < 25 → get_or kinds i Any ≡ Flag → bit_of (flag_at i b) ≡ get_or b i 0
    flag i h k = flag_back (get_or b i 0) (subst (λ (x : Kind). allows x (get_or b i 0) ≡ true) k (allowed i h))

    -- the bytes of the record that bytes without fault lay out
    pub bytes_back : Bytes b → record_bytes (parser_of b) ≡ b
    unfolding parser_of kinds joined
    bytes_back bytes =
        in_pieces (parser_of b)
        ∙ one 0 (lit< tt) (flag 0 (lit< tt) refl)
        (one 1 (lit< tt) (flag 1 (lit< tt) refl)
        (one 2 (lit< tt) (flag 2 (lit< tt) refl)
        (one 3 (lit< tt) (flag 3 (lit< tt) refl)
        (step 4 4 (signs 4 (lit≤ tt))
        (step 8 4 (signs 8 (lit≤ tt))
        (step 12 3 refl
        (one 15 (lit< tt) (flag 15 (lit< tt) refl)
        (one 16 (lit< tt) (flag 16 (lit< tt) refl)
        (step 17 4 (signs 17 (lit≤ tt))
        (step 21 4 (signs 21 (lit≤ tt))
        (step 25 1056 refl
        (step 1081 38 motion
        (step 1119 4 refl
        (step 1123 3 refl (sym (ap (λ (n : ℕ). drop n b) (sym size) ∙ drop-length b))))))))))))))))
      where
        signs : (at : ℕ) → at + 4 ≤ 1126 → map (of_z w8) (signed_at at b) ≡ part at 4 b
        signs at h = bytes_signed (part at 4 b) (over_part (Fits w8) at 4 h (λ i l. bytes (at + i)))

        motion : flat_mv (laid_mv (part 1081 38 b)) ≡ part 1081 38 b
        motion =
            let n = part_size 1081 38 (lit≤ tt) in
            mv.there (part 1081 38 b) (omega (arith, n)) ∙ take_all 38 (part 1081 38 b) (omega (arith, n))

    -- which has no fault
    pub sound_laid : Sound (parser_of b)
    unfolding parser_of kinds
    sound_laid = record {
      sized = record {
        quantizers = signed_part 4 (lit≤ tt);
        levels = signed_part 8 (lit≤ tt);
        probs = part_size 12 3 (lit≤ tt);
        frames = signed_part 17 (lit≤ tt);
        modes = signed_part 21 (lit≤ tt);
        coeffs = part_size 25 1056 (lit≤ tt);
        motion = mv.good (part 1081 38 b) (omega (arith, part_size 1081 38 (lit≤ tt)));
        luma = part_size 1119 4 (lit≤ tt);
        chroma = part_size 1123 3 (lit≤ tt);
      };
      quantizers = within 127 4 (lit≤ tt) (lit≤ tt) (same 4 refl refl refl refl);
      levels = within 63 8 (lit≤ tt) (lit≤ tt) (same 8 refl refl refl refl);
      frames = within 63 17 (lit≤ tt) (lit≤ tt) (same 17 refl refl refl refl);
      modes = within 63 21 (lit≤ tt) (lit≤ tt) (same 21 refl refl refl refl);
    }
      where
        signed_part : (at : ℕ) → at + 4 ≤ 1126 → length (signed_at at b) ≡ 4
        signed_part at h = length-map (part at 4 b) (to_z w8) ∙ part_size at 4 h

        -- four kinds that are all k
        same : (at : ℕ) {k : Kind} → get_or kinds at Any ≡ k → get_or kinds (at + 1) Any ≡ k → get_or kinds (at + 2) Any ≡ k
            → get_or kinds (at + 3) Any ≡ k → (i : ℕ) → i < 4 → get_or kinds (at + i) Any ≡ k
        same at a b c d zero h = rw add-zero a
        same at a b c d (suc zero) h = b
        same at a b c d (suc (suc zero)) h = c
        same at a b c d (suc (suc (suc zero))) h = d
        same at a b c d (suc (suc (suc (suc i)))) h = absurd (omega (arith, h))

        mapped : (n : ℕ) (xs : List ℕ) → Every (λ x. Within n (to_z w8 x)) xs → Every (Within n) (map (to_z w8) xs)
        mapped n [] g = tt
        mapped n (x ∷ xs) g = (g.0, mapped n xs g.1)

        within : (n at : ℕ) → at + 4 ≤ 25 → at + 4 ≤ 1126 → ((i : ℕ) → i < 4 → get_or kinds (at + i) Any ≡ UpTo n)
            → Every (Within n) (signed_at at b)
        within n at f h k =
            mapped n (part at 4 b)
            (over_part (λ x. Within n (to_z w8 x)) at 4 h (λ i l.
            leb-true _ _ (subst (λ (x : Kind). allows x (get_or b (at + i) 0) ≡ true) (k i l) (allowed (at + i) (omega (arith, f, l))))))
