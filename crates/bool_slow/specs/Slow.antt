-- What the slow decoder's contracts say: those of the window's decoder, of the slow ones.
use Rattle.std.specs.Prelude.{ℕ, ◌+◌, ◌≤◌, List, ℤ}
use Rattle.std.specs.Borrow.{Bor}
use Rattle.rfc6386.specs.Decoder.{State}
use Rattle.rfc6386.specs.Reads.{Rd}
use Rattle.bool_decoder.specs.Engine as By
use Rattle.bool_decoder.specs.Bare as Bare
use Rattle.bool_slow.specs.Hand as H
use Rattle.bool_slow.specs.declared.SlowDecoder.{SlowDecoder}

abbrev pub area_of : SlowDecoder → Bor (List ℕ)
area_of d = d.area

-- the definition's state that d stands for
abbrev pub state_of : SlowDecoder → State
state_of d = H.state_of d.area.now d.hand

-- the slow decoders over the area `at` as an engine: that one is fresh or left by reads is a fact of its type
abbrev pub over : Bor (List ℕ) → By.Engine
over = Bare.over area_of state_of

-- d has room for k bools more
abbrev pub Room : SlowDecoder → ℕ → Type 0
Room d k = d.hand.bools + k ≤ 16777216

-- the reads m from d give a and leave d', over the same area, with at most k bools
abbrev pub Ran : {A : Type 0} → Rd A → SlowDecoder → A → SlowDecoder → ℕ → Type 0
Ran m d a d' k = By.Ran (over d.area) m d.area.now d a d' k

abbrev pub Lit : ℕ → SlowDecoder → ℕ → SlowDecoder → Type 0
Lit w d v d' = By.Lit (over d.area) d.area.now w d v d'

abbrev pub Sgn : ℕ → SlowDecoder → ℤ → SlowDecoder → Type 0
Sgn w d z d' = By.Sgn (over d.area) d.area.now w d z d'

-- d is the decoder at the start of the area `at`
abbrev pub Fresh : Bor (List ℕ) → SlowDecoder → Type 0
Fresh at d = By.Fresh (over at) at.now d
