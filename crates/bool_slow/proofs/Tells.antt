-- What a caller is told by a list of reads is the definition's, of any engine, by induction on the list; what a decoder tells by the
-- contracts of the bare one is told by its engine, read by read; so both engines, each from its fresh decoder, tell the same.
use Prim.Native.Nat.{ℕ}
use mathlib.Core.Path.{◌≡◌, refl, ap, sym, ◌∙◌, subst}
use mathlib.Core.List.{List, ◌∷◌}
use denote.Ref.{Bor}
use Rattle.std.specs.Prelude.{Result, Ok, Err}
use Rattle.rfc6386.specs.Decoder.{State, Out, bits, start, past}
use Rattle.rfc6386.specs.Reads.{Rd, make}
use Rattle.bool_decoder.specs.Engine.{Engine}
use Rattle.bool_decoder.specs.Engine as By
use Rattle.bool_decoder.specs.declared.BoolDecoder.{BoolDecoder}
use Rattle.bool_decoder.specs.declared.Read.{Read}
use Rattle.bool_decoder.specs.declared.ReadRefusal.{ReadRefusal}
use Rattle.bool_decoder.specs.Model as W
use Rattle.bool_slow.specs.declared.SlowDecoder.{SlowDecoder}
use Rattle.bool_slow.specs.Asks.{Ask, Value, Bit, Plain, Signed, Gives}
use Rattle.bool_decoder.specs.Bare.{over, past_of, Fresh, Meets, shown_of}
use Rattle.bool_slow.specs.Slow as S
use Rattle.bool_slow.specs.Told.{Told, tells, given, carried, EngineTells, Answers, Tells}
use Rattle.bool_slow.specs.Told as T
use Rattle.bool_slow.proofs.Answers.{allowed, refused}

-- the first of the definition's answers, and the rest
first : (area : List ℕ) (asks : List Ask) → Out Value → List Told
first area asks o =
    record { value = o.got; past = past (bits area) o.then; shown = shown_of (bits area) o.then } ∷ tells area asks o.then

pub engine_told_is : {E : Engine} {area : List ℕ} {d : E.Dec} {asks : List Ask} {ts : List Told} → EngineTells E area d asks ts
    → ts ≡ tells area asks (E.state_of area d)
unfolding tells first
engine_told_is T.none = refl
engine_told_is {area = area} {asks = a ∷ asks} (T.next {v = v} g s t) =
    (λ i. record { value = v; past = g.past i; shown = s i } ∷ engine_told_is t i) ∙ sym (ap (first area asks) g.is)

-- any engine's answers from its fresh decoder, to any reads
pub engine_meets : {E : Engine} {area : List ℕ} {d : E.Dec} {asks : List Ask} {ts : List Told} → By.Fresh E area d
    → EngineTells E area d asks ts → ts ≡ tells area asks (start area)
engine_meets {area = area} {asks = asks} f t = engine_told_is t ∙ ap (tells area asks) f.state

module _ {D : Type 0} (area : D → Bor (List ℕ)) (state : D → State) where
  -- an answer is the definition's
  pub meets_gives : {A : Type 0} (f : A → Value) (m : Rd A) (d : D) (w k : ℕ) (r : Result (Read A) ReadRefusal) {d' : D}
      → Meets area state m d w k r d'
      → Gives (over area state (area d)) (area d).now (record { width = w; wanted = k; tree = make f m }) d (given f r)
      (carried r (past_of area state d')) d'
  meets_gives f m d w k (Ok r) g = allowed f m g
  meets_gives f m d w k (Err e) g = rw g.1 (refused (make f m) refl g.0)

  pub gives : {d d' : D} {a : Ask} {v : Value} {q : ℕ} → Answers area state d d' a v q
      → Gives (over area state (area d)) (area d).now a d v q d'
  gives {d} (T.bit p r m) = meets_gives Bit _ d 1 1 r m
  gives {d} (T.plain w r m) = meets_gives Plain _ d w w r m
  gives {d} (T.sign w r m) = meets_gives Signed _ d w _ r m

  -- what a decoder tells by its contracts, its engine tells
  pub engine_tells : {at : Bor (List ℕ)} {d : D} {asks : List Ask} {ts : List Told} → area d ≡ at → Tells area state d asks ts
      → EngineTells (over area state at) at.now d asks ts
  engine_tells same T.none = T.none
  engine_tells {at} {d} {asks = a ∷ asks} same (T.next {v = v} {q = q} {d' = d'} p s t) =
      let g = subst (λ (b : Bor (List ℕ)). Gives (over area state b) b.now a d v q d') same (gives p) in
      let l : bits (area d').now ≡ bits at.now = ap (λ (b : Bor (List ℕ)). bits b.now) g.over in
      T.next g (s ∙ ap (λ n. shown_of n (state d')) l) (engine_tells g.over t)

  pub told_is : {at : Bor (List ℕ)} {d : D} {asks : List Ask} {ts : List Told} → area d ≡ at → Tells area state d asks ts
      → ts ≡ tells at.now asks (state d)
  told_is same t = engine_told_is (engine_tells same t)

  -- an engine's answers from its fresh decoder
  pub meets : {at : Bor (List ℕ)} {d : D} {asks : List Ask} {ts : List Told} → Fresh area state at d → Tells area state d asks ts
      → ts ≡ tells at.now asks (start at.now)
  meets f t = engine_meets f (engine_tells f.over t)

-- the window tells what any engine does over the same bytes, each from its fresh decoder; of the engine what it gives is all that is known
pub window_agrees : {E : Engine} {at : Bor (List ℕ)} {area : List ℕ} {d : BoolDecoder} {e : E.Dec} {asks : List Ask} {xs ys : List Told}
    → at.now ≡ area → W.Fresh at d → By.Fresh E area e → T.WindowTells d asks xs → EngineTells E area e asks ys → xs ≡ ys
window_agrees {asks = asks} b f g w s = meets _ _ f w ∙ ap (λ area. tells area asks (start area)) b ∙ sym (engine_meets g s)

-- **the two engines agree**: over the same bytes and for every list of reads, whatever the two fresh decoders answer and show is the same
pub agree : {at bt : Bor (List ℕ)} {d : BoolDecoder} {e : SlowDecoder} {asks : List Ask} {xs ys : List Told} → at.now ≡ bt.now
    → W.Fresh at d → S.Fresh bt e → T.WindowTells d asks xs → T.SlowTells e asks ys → xs ≡ ys
agree b f g w s = window_agrees b f g w (engine_tells _ _ g.over s)
