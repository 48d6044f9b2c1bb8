-- The contract of every reader, over any engine: from a decoder over an area, with room for k bools, its tree gives the definition's value
-- and leaves a decoder that stands for the definition's state; and what a bare read does, or why it is refused.
use Rattle.std.specs.Prelude.{ℕ, ◌+◌, ◌^◌, ◌≤◌, ◌<◌, ◌≡◌, List, ℤ, length}
use Rattle.std.specs.Int.Signed.{mag}
use Rattle.rfc6386.specs.Decoder.{bits, State, start, Out, past, refusal_of}
use Rattle.rfc6386.specs.Reads.{Rd, run, lit, sint}

-- an engine: its decoders, the definition's state that one stands for over an area, and which are fresh or left by reads over it
pub record Engine : Type 1 where
  pub Dec : Type 0
  pub state_of : List ℕ → Dec → State
  pub Over : List ℕ → Dec → Type 0

abbrev pub out : {A : Type 0} → A → State → Out A
out a s = record { got = a; then = s }

-- how many bools d has read
abbrev pub bools_of : (E : Engine) → List ℕ → E.Dec → ℕ
bools_of E area d = (E.state_of area d).n

-- how many bits d has gone past the area's end
abbrev pub past_of : (E : Engine) → List ℕ → E.Dec → ℕ
past_of E area d = past (bits area) (E.state_of area d)

-- d is a decoder over this area, with room for k bools more
pub record Good (E : Engine) (area : List ℕ) (d : E.Dec) (k : ℕ) : Type 0 where
  pub over : E.Over area d
  pub room : bools_of E area d + k ≤ 16777216

-- the reads m from d give a and leave d', with at most k bools
pub record Ran (E : Engine) {A : Type 0} (m : Rd A) (area : List ℕ) (d : E.Dec) (a : A) (d' : E.Dec) (k : ℕ) : Type 0 where
  pub is : run m (bits area) (E.state_of area d) ≡ out a (E.state_of area d')
  pub over : E.Over area d'
  pub most : bools_of E area d' ≤ bools_of E area d + k

-- reads whose answer carries the bits past the end too, q of them: a sub-header, or a read of the bare decoder
pub record Passed (E : Engine) {A : Type 0} (m : Rd A) (area : List ℕ) (d : E.Dec) (a : A) (q : ℕ) (d' : E.Dec) (k : ℕ)
    : Type 0 where
  pub ran : Ran E m area d a d' k
  pub past : q ≡ past_of E area d'

-- a literal of w bools is below 2 ^ w
pub record Lit (E : Engine) (area : List ℕ) (w : ℕ) (d : E.Dec) (v : ℕ) (d' : E.Dec) : Type 0 where
  pub ran : Ran E (lit w) area d v d' w
  pub small : v < 2 ^ w

pub record Sgn (E : Engine) (area : List ℕ) (w : ℕ) (d : E.Dec) (z : ℤ) (d' : E.Dec) : Type 0 where
  pub ran : Ran E (sint w) area d z d' (w + 1)
  pub small : mag z < 2 ^ w

-- d is the decoder at the area's start
pub record Fresh (E : Engine) (area : List ℕ) (d : E.Dec) : Type 0 where
  pub over : E.Over area d
  pub state : E.state_of area d ≡ start area
  pub none : bools_of E area d ≡ 0

-- the refusal of a read of this width that wants so many bools, 0 for none
abbrev pub refusal : (E : Engine) → List ℕ → E.Dec → ℕ → ℕ → ℕ
refusal E area d width wanted = refusal_of (length area) width wanted (bools_of E area d)

-- the read is refused by this number; the caller still has d
pub record Refuses (E : Engine) (area : List ℕ) (d : E.Dec) (width wanted number : ℕ) : Type 0 where
  pub is : number ≡ refusal E area d width wanted
  pub some : 0 < number

-- nothing is refused, and the read m gives a, tells q bits past the end and leaves d'
pub record Allows (E : Engine) {A : Type 0} (m : Rd A) (area : List ℕ) (d : E.Dec) (width wanted : ℕ) (a : A) (q : ℕ) (d' : E.Dec)
    : Type 0 where
  pub free : refusal E area d width wanted ≡ 0
  pub read : Passed E m area d a q d' wanted
