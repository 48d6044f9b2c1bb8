-- What the decoder's contracts say. A decoder holds its area and a window over it, so what is said of it needs no area beside it; the
-- decoders over one area are an engine, and the contracts are those of `Engine`.
use Rattle.std.specs.Prelude.{ℕ, ◌+◌, ◌≤◌, ◌≡◌, List, ℤ}
use Rattle.std.specs.Borrow.{Bor}
use Rattle.rfc6386.specs.Decoder.{bits, State, whole, count_of, position}
use Rattle.rfc6386.specs.Reads.{Rd}
use Rattle.bool_decoder.specs.Window as W
use Rattle.bool_decoder.specs.Engine as By
use Rattle.bool_decoder.specs.declared.BoolDecoder.{BoolDecoder}
use Rattle.bool_decoder.specs.declared.BoolDecoderState.{BoolDecoderState}

-- the definition's state that d stands for
abbrev pub state_of : BoolDecoder → State
state_of d = W.state_of d.area.now d.window

-- how many bools d has read
abbrev pub bools_of : BoolDecoder → ℕ
bools_of d = d.window.bools

-- the decoders over the area `at` as an engine: that one is fresh or left by reads is a fact of its type
abbrev pub over : Bor (List ℕ) → By.Engine
over at = record { Dec = BoolDecoder; state_of = λ _ d. state_of d; Over = λ _ d. d.area ≡ at }

-- d has room for k bools more
abbrev pub Room : BoolDecoder → ℕ → Type 0
Room d k = bools_of d + k ≤ 16777216

-- the reads m from d give a and leave d', over the same area, with at most k bools
abbrev pub Ran : {A : Type 0} → Rd A → BoolDecoder → A → BoolDecoder → ℕ → Type 0
Ran m d a d' k = By.Ran (over d.area) m d.area.now d a d' k

-- the position, and how many bits d has gone past the area's end
abbrev pub position_of : BoolDecoder → ℕ
position_of d = position (bits d.area.now) (state_of d)

abbrev pub past_of : BoolDecoder → ℕ
past_of d = By.past_of (over d.area) d.area.now d

-- reads whose answer carries the bits past the end too, q of them
abbrev pub Passed : {A : Type 0} → Rd A → BoolDecoder → A → ℕ → BoolDecoder → ℕ → Type 0
Passed m d a q d' k = By.Passed (over d.area) m d.area.now d a q d' k

abbrev pub Lit : ℕ → BoolDecoder → ℕ → BoolDecoder → Type 0
Lit w d v d' = By.Lit (over d.area) d.area.now w d v d'

abbrev pub Sgn : ℕ → BoolDecoder → ℤ → BoolDecoder → Type 0
Sgn w d z d' = By.Sgn (over d.area) d.area.now w d z d'

-- d is the decoder at the start of the area `at`
abbrev pub Fresh : Bor (List ℕ) → BoolDecoder → Type 0
Fresh at d = By.Fresh (over at) at.now d

-- r is what the definition shows of d's state
pub record Seen (d : BoolDecoder) (r : BoolDecoderState) : Type 0 where
  pub range : r.range ≡ (state_of d).r
  pub value : r.value ≡ whole (bits d.area.now) (state_of d)
  pub count : r.count ≡ count_of (state_of d)

-- what `pos`, `past`, `snapshot` and `bools` answer of d
pub record Shows (d : BoolDecoder) (at q : ℕ) (r : BoolDecoderState) (n : ℕ) : Type 0 where
  pub place : at ≡ position_of d
  pub past_end : q ≡ past_of d
  pub seen : Seen d r
  pub bools : n ≡ bools_of d
