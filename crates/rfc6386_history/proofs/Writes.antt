-- A header read to its end writes what the rules say (`written`), group by group, and the parser keeps its shape: one law for a group,
-- and one for what follows it.
use Prim.Native.Nat.{ℕ}
use native.Mathlib.Omega.{arith}
use mathlib.Core.Path.{◌≡◌, refl, sym, ap₂, ◌∙◌}
use mathlib.Core.Bool.{Bool, true, false}
use mathlib.Core.Option
use mathlib.Core.Option.{Option, none, some}
use mathlib.Core.List.{List, [], ◌∷◌, ◌++◌, map}
use lib.Dec.{lit≤}
use lib.IntN.{ℤ, pos}
use lib.ListN.{length, length-append, length-map}
use lib.Seq.{take_all}
use Rattle.vp8_probs.specs.Tables.{coeff_default, mv_default}
use Rattle.vp8_records.specs.declared.Segmentation.{Segmentation}
use Rattle.vp8_records.specs.declared.MbLfAdjustments.{MbLfAdjustments}
use Rattle.vp8_records.specs.declared.Parser.{Parser}
use Rattle.vp8_records.specs.Layout.{joined, flat_coeffs, flat_mv}
use Rattle.vp8_records.specs.Start.{fresh_coeffs, fresh_mv, fresh}
use Rattle.rfc6386.specs.Decoder.{pick}
use Rattle.rfc6386.specs.Runs.{or, over}
use Rattle.rfc6386.specs.Coded.{Coded}
use Rattle.rfc6386.specs.Call.{Probs, segmented, adjusted, coeffs_over, mv_over, modes_over, probs_of, probs_over, apply, cleared}
use Rattle.rfc6386_history.specs.Kept.{flagged, numbers}
use Rattle.vp8_records.specs.Shape.{SizedCoeffs, SizedMv, Sized}
use Rattle.rfc6386_history.specs.History.{fit, bytes, written}
use Rattle.vp8_records.proofs.Parts.{Laid, mv}
use Rattle.rfc6386.proofs.Runs.{length_over, over_append}
use Rattle.rfc6386_history.proofs.Runs.{length_fit, over_fit, over_map}

infixr 65 ◌then◌
-- what is written over records of n numbers, laid out again
module _
    {A : Type 0} {flat : A → List ℕ} {laid : List ℕ → A} {n : ℕ} {Good : A → Type 0} (law : Laid flat laid n Good)
    (us : List (Option ℕ)) (x : A) (g : Good x) where
  over_size : length (over us (flat x)) ≡ n
  over_size = length_over us (flat x) ∙ law.size x g

  over_there : flat (laid (over us (flat x))) ≡ over us (flat x)
  over_there = law.there _ (omega (arith, over_size)) ∙ take_all n _ (omega (arith, over_size))

  over_good : Good (laid (over us (flat x)))
  over_good = law.good _ (omega (arith, over_size))

-- us, as many as xs, written over xs give zs
pub record Wrote {A : Type 0} (us : List (Option A)) (xs zs : List A) : Type 0 where
  pub same : length xs ≡ length us
  pub is : over us xs ≡ zs

nothing : {A : Type 0} → Wrote {A = A} [] [] []
unfolding over
nothing = record { same = refl; is = refl }

-- a group, and what follows it
◌then◌ : {A : Type 0} {us vs : List (Option A)} {xs ys zs ws : List A} → Wrote us xs zs → Wrote vs ys ws
    → Wrote (us ++ vs) (xs ++ ys) (zs ++ ws)
◌then◌ {us = us} {vs} {xs} {ys} {zs} {ws} a b = record {
  same = simp length-append (omega (arith, a.same, b.same));
  is = over_append us vs xs ys a.same ∙ ap₂ ◌++◌ a.is b.is;
}

-- a flag that is written only where it was read
flag : (u : Option Bool) (b : Bool) → Wrote (Option.map flagged u ∷ []) (flagged b ∷ []) (flagged (or u b) ∷ [])
unfolding over
flag none b = record { same = refl; is = refl }
flag (some a) b = record { same = refl; is = refl }

-- a group of n
module _ (n : ℕ) where
  values : (us : List (Option ℤ)) (xs : List ℤ) → length xs ≡ n → Wrote (fit n us) xs (over us xs)
  values us xs h = record { same = h ∙ sym (length_fit n us); is = over_fit n us xs h }

  probs : (us : List (Option ℕ)) (xs : List ℕ) → length xs ≡ n → Wrote (bytes n us) (map pos xs) (map pos (over us xs))
  probs us xs h = record {
    same = length-map xs pos ∙ h ∙ sym (length_fit n _);
    is = over_fit n _ _ (length-map xs pos ∙ h) ∙ over_map pos us xs;
  }

  -- that is saved only where b is set
  saves : (b : Bool) (flat : Probs → List ℕ) (new old : Probs) (us : List (Option ℕ)) → length (flat old) ≡ n
      → flat new ≡ over us (flat old)
      → Wrote (bytes n (pick b us [])) (map pos (flat old)) (map pos (flat (pick b new old)))
  unfolding over
  saves true flat new old us h e = rw e (probs us (flat old) h)
  saves false flat new old us h e = probs [] (flat old) h

-- all eleven groups
pub applied : (c : Coded) (p : Parser) → Sized p → Wrote (written c) (numbers p) (numbers (apply c p))
unfolding written numbers joined apply segmented adjusted probs_over coeffs_over mv_over modes_over
applied c p s =
    flag (some c.segments.enabled) g.segmentation_enabled
    then flag (some c.segments.update_map) g.update_mb_segmentation_map
    then flag (some c.segments.update_data) g.update_segment_feature_data
    then flag c.segments.mode g.segment_feature_mode
    then values 4 c.segments.quantizers g.quantizer_update_value s.quantizers
    then values 4 c.segments.levels g.lf_update_value s.levels
    then probs 3 c.segments.probs g.segment_prob s.probs
    then flag (some c.deltas.enabled) a.loop_filter_adj_enable
    then flag (some c.deltas.update) a.mode_ref_lf_delta_update
    then values 4 c.deltas.frames a.ref_frame_delta s.frames
    then values 4 c.deltas.modes a.mb_mode_delta s.modes
    then saves 1056 e (λ q. flat_coeffs q.coeffs) new old c.coeffs s.coeffs refl
    then saves 38 e (λ q. flat_mv q.mv) new old c.inter.motion
    (mv.size p.mv_prob s.motion) (over_there mv c.inter.motion p.mv_prob s.motion)
    then saves 4 e (λ q. q.modes.intra_16x16_prob) new old c.inter.luma s.luma refl
    then saves 3 e (λ q. q.modes.intra_chroma_prob) new old c.inter.chroma s.chroma refl
    then nothing
  where
    e : Bool
    e = c.refresh.entropy

    new : Probs
    new = probs_over c (probs_of p)

    old : Probs
    old = probs_of p

    g : Segmentation
    g = p.segmentation

    a : MbLfAdjustments
    a = p.mb_lf_adjust

pub sized_fresh : Sized fresh
unfolding fresh fresh_coeffs fresh_mv coeff_default mv_default
sized_fresh = record {
  quantizers = refl;
  levels = refl;
  probs = refl;
  frames = refl;
  modes = refl;
  coeffs = refl;
  motion = mv.good mv_default (lit≤ tt);
  luma = refl;
  chroma = refl;
}

either : (b : Bool) (P : Probs → Type 0) (new old : Probs) → P new → P old → P (pick b new old)
either true P new old h k = h
either false P new old h k = k

pub sized_apply : (c : Coded) (p : Parser) → Sized p → Sized (apply c p)
unfolding apply segmented adjusted probs_over coeffs_over mv_over modes_over
sized_apply c p s = record {
  quantizers = length_over c.segments.quantizers _ ∙ s.quantizers;
  levels = length_over c.segments.levels _ ∙ s.levels;
  probs = length_over c.segments.probs _ ∙ s.probs;
  frames = length_over c.deltas.frames _ ∙ s.frames;
  modes = length_over c.deltas.modes _ ∙ s.modes;
  coeffs = saved (λ q. SizedCoeffs q.coeffs) (length_over c.coeffs _ ∙ s.coeffs) s.coeffs;
  motion = saved (λ q. SizedMv q.mv) (over_good mv c.inter.motion p.mv_prob s.motion) s.motion;
  luma = saved (λ q. length q.modes.intra_16x16_prob ≡ 4) (length_over c.inter.luma _ ∙ s.luma) s.luma;
  chroma = saved (λ q. length q.modes.intra_chroma_prob ≡ 3) (length_over c.inter.chroma _ ∙ s.chroma) s.chroma;
}
  where
    saved : (P : Probs → Type 0) → P (probs_over c (probs_of p)) → P (probs_of p)
        → P (pick c.refresh.entropy (probs_over c (probs_of p)) (probs_of p))
    saved P = either c.refresh.entropy P _ _

pub sized_cleared : (p : Parser) → Sized p → Sized (cleared p)
unfolding cleared
sized_cleared p s = record {
  quantizers = s.quantizers;
  levels = s.levels;
  probs = s.probs;
  frames = s.frames;
  modes = s.modes;
  coeffs = s.coeffs;
  motion = s.motion;
  luma = s.luma;
  chroma = s.chroma;
}
