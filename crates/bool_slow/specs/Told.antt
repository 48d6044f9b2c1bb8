-- What a caller is told by a list of reads of the bare decoder: of each read its answer, and what the decoder shows after it.
use Rattle.std.specs.Prelude.{ℕ, ◌+◌, ◌≡◌, Bool, List, [], ◌∷◌, ℤ, Result, Ok, Err}
use Rattle.std.specs.Borrow.{Bor}
use Rattle.rfc6386.specs.Decoder.{State, bits, past}
use Rattle.rfc6386.specs.Reads.{bool, lit, sint}
use Rattle.bool_decoder.specs.Bare.{Meets, past_of, shown_of}
use Rattle.bool_decoder.specs.Engine.{Engine}
use Rattle.bool_decoder.specs.Model as W
use Rattle.bool_decoder.specs.Refusal.{number_of}
use Rattle.bool_decoder.specs.declared.bare.Shown.{Shown}
use Rattle.bool_decoder.specs.declared.BoolDecoder.{BoolDecoder}
use Rattle.bool_decoder.specs.declared.Read.{Read}
use Rattle.bool_decoder.specs.declared.ReadRefusal.{ReadRefusal}
use Rattle.bool_slow.specs.Asks.{Ask, ask_bool, ask_plain, ask_signed, answered, Value, Bit, Plain, Signed, Refused, Gives}
use Rattle.bool_slow.specs.Slow as S
use Rattle.bool_slow.specs.declared.SlowDecoder.{SlowDecoder}

-- a read's answer, the bits past the end that it carries, and what is shown after it
pub record Told : Type 0 where
  pub value : Value
  pub past : ℕ
  pub shown : Shown

-- the definition's answers to a list of reads, from a state on
unfoldable pub tells : List ℕ → List Ask → State → List Told
tells area [] s = []
tells area (a ∷ asks) s =
    let o = answered area a s in
    record { value = o.got; past = past (bits area) o.then; shown = shown_of (bits area) o.then } ∷ tells area asks o.then

-- any engine's, from its decoder d on, to any reads: each is answered from the decoder that the one before it has left
pub data EngineTells (E : Engine) (area : List ℕ) : E.Dec → List Ask → List Told → Type 0 where
  none : {d : E.Dec} → EngineTells E area d [] []
  next : {d : E.Dec} {a : Ask} {v : Value} {q : ℕ} {d' : E.Dec} {s : Shown} {asks : List Ask} {ts : List Told}
      → Gives E area a d v q d' → s ≡ shown_of (bits area) (E.state_of area d') → EngineTells E area d' asks ts
      → EngineTells E area d (a ∷ asks) (record { value = v; past = q; shown = s } ∷ ts)

-- what an answer gives, and the bits past the end that it carries: of a refusal those of the decoder, which it leaves
abbrev pub given : {A : Type 0} → (A → Value) → Result (Read A) ReadRefusal → Value
given f (Ok r) = f r.value
given f (Err e) = Refused (number_of e)

abbrev pub carried : {A : Type 0} → Result (Read A) ReadRefusal → ℕ → ℕ
carried (Ok r) q = r.past
carried (Err e) q = q

module _ {D : Type 0} (area : D → Bor (List ℕ)) (state : D → State) where
  -- a decoder's answer to a read, by the contract of the method that makes it
  pub data Answers (d d' : D) : Ask → Value → ℕ → Type 0 where
    bit : (p : ℕ) (r : Result (Read Bool) ReadRefusal) → Meets area state (bool p) d 1 1 r d'
        → Answers d d' (ask_bool p) (given Bit r) (carried r (past_of area state d'))
    plain : (w : ℕ) (r : Result (Read ℕ) ReadRefusal) → Meets area state (lit w) d w w r d'
        → Answers d d' (ask_plain w) (given Plain r) (carried r (past_of area state d'))
    sign : (w : ℕ) (r : Result (Read ℤ) ReadRefusal) → Meets area state (sint w) d w (w + 1) r d'
        → Answers d d' (ask_signed w) (given Signed r) (carried r (past_of area state d'))

  -- what it tells from d on, by those and the contract of `shown`: each read is answered from the decoder that the one before it has left
  pub data Tells : D → List Ask → List Told → Type 0 where
    none : {d : D} → Tells d [] []
    next : {d : D} {a : Ask} {v : Value} {q : ℕ} {d' : D} {s : Shown} {asks : List Ask} {ts : List Told}
        → Answers d d' a v q → s ≡ shown_of (bits (area d').now) (state d') → Tells d' asks ts
        → Tells d (a ∷ asks) (record { value = v; past = q; shown = s } ∷ ts)

-- what the window tells, and what the slow engine does
abbrev pub WindowTells : BoolDecoder → List Ask → List Told → Type 0
WindowTells = Tells (λ d. d.area) W.state_of

abbrev pub SlowTells : SlowDecoder → List Ask → List Told → Type 0
SlowTells = Tells S.area_of S.state_of
