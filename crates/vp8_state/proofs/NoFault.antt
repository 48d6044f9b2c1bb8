-- A record without fault has bytes without fault: a group at a time, each of one kind; and where bytes are a block.
use Prim.Native.Nat.{ℕ, zero, suc, ◌<◌}
use native.Mathlib.Omega.{arith}
use mathlib.Core.Path.{◌≡◌, refl, ap, sym, subst, ◌∙◌}
use mathlib.Core.Bool.{Bool, true, false}
use mathlib.Core.List.{List, [], ◌∷◌, ◌++◌, map}
use borrow.Author.Tests.{le-leb}
use lib.Dec.{leb, lit<}
use lib.IntN.{ℤ, nat_abs}
use lib.ListN.{length, replicate}
use mir.Syntax.{w8}
use mir.Val.{of_z}
use mir.ValLaws.{to_z-of_z}
use Rattle.vp8_records.specs.declared.Parser.{Parser}
use Rattle.vp8_records.specs.Layout.{joined}
use Rattle.vp8_records.specs.Shape.{Every}
use Rattle.rfc6386.specs.Holds.{Within}
use Rattle.rfc6386_history.specs.Sound.{Sound}
use Rattle.vp8_flat.specs.Bytes.{bit_of}
use Rattle.vp8_state.specs.declared.Kind.{Kind}
use Rattle.vp8_state.specs.declared.Kind.TheVariants.{Any, Flag, UpTo}
use Rattle.vp8_state.specs.Block.{record_bytes, agree, allows, kinds, faultless}
use Rattle.vp8_state.proofs.Laid.{Typed, fits, in_pieces, signed_size, record_size, record_back, sound_laid}

abbrev Passes : Kind → ℕ → Type 0
Passes k x = allows k x ≡ true

-- n bytes of one kind, and what follows them
together : (k : Kind) (n : ℕ) (ks : List Kind) (xs rest : List ℕ) → length xs ≡ n → Every (Passes k) xs → agree allows ks rest ≡ true
    → agree allows (replicate n k ++ ks) (xs ++ rest) ≡ true
unfolding agree
together k zero ks [] rest n g h = h
together k zero ks (x ∷ xs) rest n g h = absurd (omega (arith, n))
together k (suc m) ks [] rest n g h = absurd (omega (arith, n))
together k (suc m) ks (x ∷ xs) rest n g h = rw g.0 (together k m ks xs rest (omega arith) g.1 h)

enough : (rest : List ℕ) → agree allows [] rest ≡ true
unfolding agree
enough rest = refl

into : (n : ℕ) → n < 128 → (zs : List ℤ) → Every (Within n) zs → Every (Passes (UpTo n)) (map (of_z w8) zs)
into n l [] g = tt
into n l (z ∷ zs) g = (
  ap (λ (y : ℤ). leb (nat_abs y) n) (to_z-of_z w8 z (fits n l z g.0)) ∙ le-leb _ _ g.0,
  into n l zs g.1,
)

free : (xs : List ℕ) → Every (Passes Any) xs
free [] = tt
free (x ∷ xs) = (refl, free xs)

flag : (b : Bool) → Passes Flag (bit_of b)
flag true = refl
flag false = refl

-- four signed bytes
signed : (n : ℕ) → n < 128 → (ks : List Kind) (zs : List ℤ) → length zs ≡ 4 → Every (Within n) zs → (rest : List ℕ)
    → agree allows ks rest ≡ true → agree allows (replicate 4 (UpTo n) ++ ks) (map (of_z w8) zs ++ rest) ≡ true
signed n l ks zs m h rest = together (UpTo n) 4 ks (map (of_z w8) zs) rest (signed_size zs m) (into n l zs h)

abbrev four : Parser → List ℕ
four p =
    bit_of p.segmentation.segmentation_enabled
    ∷ bit_of p.segmentation.update_mb_segmentation_map
    ∷ bit_of p.segmentation.update_segment_feature_data
    ∷ bit_of p.segmentation.segment_feature_mode
    ∷ []

abbrev two : Parser → List ℕ
two p = bit_of p.mb_lf_adjust.loop_filter_adj_enable ∷ bit_of p.mb_lf_adjust.mode_ref_lf_delta_update ∷ []

-- the kinds after each group
abbrev k6 : List Kind
k6 = replicate 4 (UpTo 63) ++ []

abbrev k5 : List Kind
k5 = replicate 4 (UpTo 63) ++ k6

abbrev k4 : List Kind
k4 = replicate 2 Flag ++ k5

abbrev k3 : List Kind
k3 = replicate 3 Any ++ k4

abbrev k2 : List Kind
k2 = replicate 4 (UpTo 63) ++ k3

abbrev k1 : List Kind
k1 = replicate 4 (UpTo 127) ++ k2

pub sound_faultless : (p : Parser) → Sound p → faultless (record_bytes p) ≡ true
unfolding kinds joined
sound_faultless p g =
    let s = g.sized in
    let q = p.segmentation in
    let a = p.mb_lf_adjust in
    subst (λ (l : List ℕ). agree allows kinds l ≡ true) (sym (in_pieces p))
    (together Flag 4 k1 (four p) _ refl (
      flag q.segmentation_enabled,
      (flag q.update_mb_segmentation_map, (flag q.update_segment_feature_data, (flag q.segment_feature_mode, tt))),
    )
    (signed 127 (lit< tt) k2 q.quantizer_update_value s.quantizers g.quantizers _
    (signed 63 (lit< tt) k3 q.lf_update_value s.levels g.levels _
    (together Any 3 k4 q.segment_prob _ s.probs (free q.segment_prob)
    (together Flag 2 k5 (two p) _ refl (flag a.loop_filter_adj_enable, (flag a.mode_ref_lf_delta_update, tt))
    (signed 63 (lit< tt) k6 a.ref_frame_delta s.frames g.frames _
    (signed 63 (lit< tt) [] a.mb_mode_delta s.modes g.modes _ (enough _))))))))

-- so of a record of the machine the test of its bytes tells
pub faultless_sound : (p : Parser) → Typed p → faultless (record_bytes p) ≡ true → Sound p
faultless_sound p t h = subst Sound (record_back p t) (sound_laid (record_bytes p) (record_size p t.sized) h)
