-- A signed literal of w bools is below 2 ^ w in magnitude, so each signed value of a header lies in its range: a law for each way to read,
-- then one for each sub-header.
use Prim.Native.Nat.{ℕ, zero, suc, ◌^◌, ◌<◌}
use native.Mathlib.Omega.{arith}
use mathlib.Core.Bool.{Bool, true, false, not}
use mathlib.Core.Option.{Option, none, some}
use mathlib.Core.List.{List, [], ◌∷◌}
use lib.Dec.{lit≤}
use lib.IntN.{ℤ, pos, nat_abs}
use Rattle.vp8_records.specs.declared.Mode.{Mode}
use Rattle.vp8_records.specs.Shape.{Every}
use Rattle.rfc6386.specs.Reads.{Rd, bool, flag, when, lit, sint, signed, make, times, maybe, or_else}
use Rattle.rfc6386.specs.Coded.{Features, Segments, Deltas, Coded, anew, features, no_features, mapped, segments, deltas, quant}
use Rattle.rfc6386.specs.Coded.{refresh, coefficients, inter, no_inter, header}
use Rattle.rfc6386.specs.Holds.{Within, Perhaps, Bounded}
use Rattle.rfc6386.proofs.Trees.{Always, always_ret, always_bind, always_skip, lit_small}
use Rattle.rfc6386.proofs.Holds.{under}

signed_small : (b : Bool) (m n : ℕ) → m < n → nat_abs (signed b m) < n
signed_small true zero n h = h
signed_small true (suc m) n h = h
signed_small false m n h = h

pub sint_small : (w : ℕ) → Always (λ z. nat_abs z < 2 ^ w) (sint w)
unfolding sint
sint_small w =
    always_bind (λ m. m < 2 ^ w) (λ z. nat_abs z < 2 ^ w) (lit w) _ (lit_small w) (λ m h.
    always_skip (λ z. nat_abs z < 2 ^ w) flag _ (λ b. always_ret (λ z. nat_abs z < 2 ^ w) (signed b m) (signed_small b m (2 ^ w) h)))

seven : Always (Within 127) (sint 7)
seven l s = let h = sint_small 7 l s in omega arith

six : Always (Within 63) (sint 6)
six l s = let h = sint_small 6 l s in omega arith

module _ {A : Type 0} (P : A → Type 0) where
  times_is : (n : ℕ) (m : Rd A) → Always P m → Always (Every P) (times n m)
  unfolding times
  times_is zero m h = always_ret (Every P) [] tt
  times_is (suc n) m h =
      always_bind P (Every P) m _ h (λ x g.
      always_bind (Every P) (Every P) (times n m) _ (times_is n m h) (λ xs k. always_ret (Every P) (x ∷ xs) (g, k)))

module _ {A : Type 0} (P : A → Type 0) (m : Rd A) (h : Always P m) where
  some_is : Always (Perhaps P) (make some m)
  unfolding make
  some_is = always_bind P (Perhaps P) m _ h (λ x g. always_ret (Perhaps P) (some x) g)

  maybe_is : (p : ℕ) → Always (Perhaps P) (maybe p m)
  unfolding maybe
  maybe_is p = always_skip (Perhaps P) (bool p) _ (λ b. under (Perhaps P) b (make some m) none some_is tt)

  or_else_lem : (x : A) → P x → Always P (or_else m x)
  unfolding or_else
  or_else_lem x g = always_skip P flag _ (λ b. under P b m x h g)

anew_is : {A : Type 0} (P : A → Type 0) (n : ℕ) (m : Rd A) (x : A) → Always P m → P x → Always (Every (Perhaps P)) (anew n m x)
unfolding anew
anew_is P n m x h g = times_is (Perhaps P) n _ (some_is P (or_else m x) (or_else_lem P m h x g))

abbrev OfFeatures : Features → Type 0
OfFeatures f = Every (Perhaps (Within 127)) f.quantizers × Every (Perhaps (Within 63)) f.levels

of_features : Always OfFeatures features
unfolding features
of_features =
    always_skip OfFeatures flag _ (λ mode.
    always_bind (Every (Perhaps (Within 127))) OfFeatures (anew 4 (sint 7) (pos 0)) _
    (anew_is (Within 127) 4 (sint 7) (pos 0) seven (lit≤ tt)) (λ q hq.
    always_bind (Every (Perhaps (Within 63))) OfFeatures (anew 4 (sint 6) (pos 0)) _
    (anew_is (Within 63) 4 (sint 6) (pos 0) six (lit≤ tt)) (λ l hl. always_ret OfFeatures _ (hq, hl))))

abbrev OfSegments : Segments → Type 0
OfSegments g = Every (Perhaps (Within 127)) g.quantizers × Every (Perhaps (Within 63)) g.levels

of_segments : (md : Mode) → Always OfSegments (segments md)
unfolding segments
of_segments md =
    let P : Segments → Type 0 = OfSegments in
    always_skip P flag _ (λ e. always_skip P (when e flag false) _ (λ m. always_skip P (when e flag false) _ (λ d.
    always_bind OfFeatures P (when d features no_features) _ (under OfFeatures d features no_features of_features (tt, tt)) (λ f hf.
    always_skip P (when (mapped md m d) (anew 3 (lit 8) 255) []) _ (λ p. always_ret P _ (hf.0, hf.1))))))

abbrev Four : List (Option ℤ) → Type 0
Four = Every (Perhaps (Within 63))

four : (u : Bool) → Always Four (when u (times 4 (maybe 128 (sint 6))) [])
four u = under Four u _ [] (times_is (Perhaps (Within 63)) 4 _ (maybe_is (Within 63) (sint 6) six 128)) tt

abbrev OfDeltas : Deltas → Type 0
OfDeltas d = Four d.frames × Four d.modes

of_deltas : Always OfDeltas deltas
unfolding deltas
of_deltas =
    always_skip OfDeltas flag _ (λ e. always_skip OfDeltas (when e flag false) _ (λ u.
    always_bind Four OfDeltas (when u (times 4 (maybe 128 (sint 6))) []) _ (four u) (λ f hf.
    always_bind Four OfDeltas (when u (times 4 (maybe 128 (sint 6))) []) _ (four u) (λ m hm. always_ret OfDeltas _ (hf, hm)))))

-- every header, over any bytes
pub header_bounded : (md : Mode) (key : Bool) → Always Bounded (header md key)
unfolding header
header_bounded md key =
    let P : Coded → Type 0 = Bounded in
    always_skip P (when key flag false) _ (λ cs. always_skip P (when key flag false) _ (λ ct.
    always_bind OfSegments P (segments md) _ (of_segments md) (λ sg hs.
    always_skip P flag _ (λ ft. always_skip P (lit 6) _ (λ ll. always_skip P (lit 3) _ (λ sh.
    always_bind OfDeltas P deltas _ of_deltas (λ ds hd.
    always_skip P (lit 2) _ (λ lp. always_skip P quant _ (λ q. always_skip P (refresh key) _ (λ rf.
    always_skip P coefficients _ (λ co. always_skip P flag _ (λ sk. always_skip P (when sk (lit 8) 0) _ (λ sp.
    always_skip P (when (not key) inter no_inter) _ (λ it.
    always_ret P _ (record { quantizers = hs.0; levels = hs.1; frames = hd.0; modes = hd.1 })))))))))))))))
