-- What the two bytes in hand hold of V, and the definition's state that they stand for over an area: the window's law at a width of 8 bits
-- after the point. And the two bytes as an engine.
use Rattle.std.specs.Prelude.{ℕ, ◌+◌, ◌-◌, ◌*◌, ◌/◌, ◌^◌, ◌≤◌, ◌<◌, List, get_or}
use Rattle.rfc6386.specs.Decoder.{bits, State}
use Rattle.rfc6386.specs.Reads.{Rd}
use Rattle.bool_decoder.specs.Engine as By
use Rattle.bool_decoder.specs.Window.{rest, Holds}
use Rattle.bool_slow.specs.declared.Hand.{Hand}

-- the doublings: eight for each byte fetched after the first two, and those since
abbrev pub doublings_of : Hand → ℕ
doublings_of d = 8 * (d.input - 2) + d.bit_count

-- the v that the two bytes make with the bytes still to come
unfoldable pub v_of : List ℕ → Hand → ℕ
v_of area d = (d.value * 2 ^ bits area + rest area d.input * 2 ^ d.bit_count) / 2 ^ 8

abbrev pub state_of : List ℕ → Hand → State
state_of area d = record { v = v_of area d; r = d.range; c = doublings_of d; n = d.bools }

-- the two bytes hold this v
abbrev pub Held : List ℕ → Hand → ℕ → Type 0
Held area d v = Holds 8 (2 ^ bits area) d.bit_count (rest area d.input) v d.value

-- d is the fresh hand over the area, or one that reads over it have left
pub record Over (area : List ℕ) (d : Hand) : Type 0 where
  pub bytes : (i : ℕ) → get_or area i 0 < 256
  pub holds : Held area d (v_of area d)
  pub begun : 2 ≤ d.input
  pub part : d.bit_count < 8
  pub low : 128 ≤ d.range
  pub high : d.range < 256
  pub few : doublings_of d ≤ 7 * d.bools
  pub count : d.bools ≤ 16777216

-- the two bytes as an engine; they go by value, with their area beside them
abbrev pub hand : By.Engine
hand = record { Dec = Hand; state_of = state_of; Over = Over }

abbrev pub Good : List ℕ → Hand → ℕ → Type 0
Good area d k = By.Good hand area d k

abbrev pub Ran : {A : Type 0} → Rd A → List ℕ → Hand → A → Hand → ℕ → Type 0
Ran m area d a d' k = By.Ran hand m area d a d' k

abbrev pub Fresh : List ℕ → Hand → Type 0
Fresh area d = By.Fresh hand area d
