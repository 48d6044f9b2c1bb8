-- The laws of `Chain` for decoders, each over its own area: a read leaves the area, so the next is moved to the first one's. And how a
-- decoder's reads are its window's, one way and the other.
use Prim.Native.Nat.{ℕ, ◌+◌}
use mathlib.Core.Path.{◌≡◌, refl, sym, ap, ◌∙◌, subst}
use mathlib.Core.Bool.{Bool, false}
use mathlib.Core.List.{List}
use denote.Ref.{Bor}
use Rattle.rfc6386.specs.Decoder.{bits, past}
use Rattle.rfc6386.specs.Reads.{Rd, ret, ◌>>=◌, when}
use Rattle.bool_decoder.specs.Engine as By
use Rattle.bool_decoder.specs.Window as W
use Rattle.bool_decoder.specs.Model.{over, state_of, past_of, Room, Ran, Passed, Fresh}
use Rattle.bool_decoder.specs.declared.BoolDecoder.{BoolDecoder}
use Rattle.bool_decoder.proofs.Chain as C

-- what is read over the same area
pub moved : {A : Type 0} {m : Rd A} {at : Bor (List ℕ)} {d e : BoolDecoder} {a : A} {k : ℕ} → d.area ≡ at → Ran m d a e k
    → By.Ran (over at) m at.now d a e k
moved {m = m} {d = d} {e = e} {a = a} {k = k} same r = subst (λ (at : Bor (List ℕ)). By.Ran (over at) m at.now d a e k) same r

-- first m, then what f makes of its value
pub then : {A B : Type 0} {m : Rd A} (f : A → Rd B) {d d₁ d₂ : BoolDecoder} {a : A} {b : B} {j k : ℕ} → Ran m d a d₁ j
    → Ran (f a) d₁ b d₂ k → Ran (m >>= f) d b d₂ (j + k)
then f p q = C.then f p (moved p.over q)

module _ {A : Type 0} {d : BoolDecoder} where
  -- nothing is read
  pub done : {a : A} → Ran (ret a) d a d 0
  done = C.done refl

  pub off : (m : Rd A) {b : Bool} {x : A} → b ≡ false → Ran (when b m x) d x d 0
  off m e = C.off m e refl

-- what was read, and the bits past the end beside it
pub passed : {A : Type 0} {m : Rd A} {d e : BoolDecoder} {a b : A} {q k : ℕ} → b ≡ a → q ≡ past_of e → Ran m d a e k → Passed m d b q e k
passed {m = m} {d = d} {e = e} {k = k} same is r =
    C.passed (is ∙ ap (λ (at : Bor (List ℕ)). past (bits at.now) (state_of e)) r.over)
    (subst (λ v. Ran m d v e k) (sym same) r)

-- the window has room where its decoder has
pub good : (d : BoolDecoder) {k : ℕ} → Room d k → W.Good d.area.now d.window k
good d r = record { over = d.over; room = r }

module _ {A : Type 0} {m : Rd A} {d e : BoolDecoder} {a : A} {k : ℕ} where
  -- what a window reads the decoder that holds it reads
  pub holder : e.area ≡ d.area → W.Ran m d.area.now d.window a e.window k → Ran m d a e k
  holder same r = record {
    is = r.is ∙ ap (λ (at : Bor (List ℕ)). By.out a (W.state_of at.now e.window)) (sym same);
    over = same;
    most = r.most;
  }

  -- and the other way round
  pub held : {at : Bor (List ℕ)} → d.area ≡ at → Ran m d a e k → W.Ran m at.now d.window a e.window k
  held same r = subst (λ (at : Bor (List ℕ)). W.Ran m at.now d.window a e.window k) same (record {
    is = r.is ∙ ap (λ (at : Bor (List ℕ)). By.out a (W.state_of at.now e.window)) r.over;
    over = subst (λ (at : Bor (List ℕ)). W.Over at.now e.window) r.over e.over;
    most = r.most;
  })

-- a decoder with the fresh window is fresh
pub begins : {d : BoolDecoder} → By.Fresh W.window d.area.now d.window → Fresh d.area d
begins f = record { over = refl; state = f.state; none = f.none }
