-- The laws of reads in a row for decoders of any type, each over its own area: a read leaves the area, so the next is moved to the first
-- one's. And how a slow decoder's reads are those of its two bytes.
use Prim.Native.Nat.{ℕ, ◌+◌}
use mathlib.Core.Path.{◌≡◌, refl, sym, ap, ◌∙◌, subst}
use mathlib.Core.List.{List}
use denote.Ref.{Bor}
use Rattle.rfc6386.specs.Decoder.{State}
use Rattle.rfc6386.specs.Reads.{Rd, ret, ◌>>=◌}
use Rattle.bool_decoder.specs.Engine as By
use Rattle.bool_decoder.proofs.Chain as C
use Rattle.bool_decoder.specs.Bare.{over}
use Rattle.bool_slow.specs.Hand as H
use Rattle.bool_slow.specs.Slow.{Room, Ran, Fresh}
use Rattle.bool_slow.specs.declared.SlowDecoder.{SlowDecoder}

module _ {D : Type 0} (area : D → Bor (List ℕ)) (state : D → State) where
  -- what is read over the same area
  pub moved : {A : Type 0} {m : Rd A} {at : Bor (List ℕ)} {d e : D} {a : A} {k : ℕ} → area d ≡ at
      → By.Ran (over area state (area d)) m (area d).now d a e k → By.Ran (over area state at) m at.now d a e k
  moved {m = m} {d = d} {e = e} {a = a} {k = k} same r =
      subst (λ (at : Bor (List ℕ)). By.Ran (over area state at) m at.now d a e k) same r

-- first m, then what f makes of its value
pub then : {A B : Type 0} {m : Rd A} (f : A → Rd B) {d d₁ d₂ : SlowDecoder} {a : A} {b : B} {j k : ℕ} → Ran m d a d₁ j
    → Ran (f a) d₁ b d₂ k → Ran (m >>= f) d b d₂ (j + k)
then f p q = C.then f p (moved _ _ p.over q)

-- nothing is read
pub done : {A : Type 0} {d : SlowDecoder} {a : A} → Ran (ret a) d a d 0
done = C.done refl

-- the two bytes have room where their decoder has
pub good : (d : SlowDecoder) {k : ℕ} → Room d k → H.Good d.area.now d.hand k
good d r = record { over = d.over; room = r }

-- what the two bytes read the decoder that holds them reads
pub holder : {A : Type 0} {m : Rd A} {d e : SlowDecoder} {a : A} {k : ℕ} → e.area ≡ d.area
    → H.Ran m d.area.now d.hand a e.hand k → Ran m d a e k
holder {e = e} {a = a} same r = record {
  is = r.is ∙ ap (λ (at : Bor (List ℕ)). By.out a (H.state_of at.now e.hand)) (sym same);
  over = same;
  most = r.most;
}

-- a decoder with the fresh two bytes is fresh
pub begins : {d : SlowDecoder} → H.Fresh d.area.now d.hand → Fresh d.area d
begins f = record { over = refl; state = f.state; none = f.none }
