-- A decoder of any type, of which two things are known: its area, and the definition's state that it stands for. What it reads, what it
-- answers and what it shows.
use Rattle.std.specs.Prelude.{ℕ, ◌+◌, ◌≤◌, ◌≡◌, List, Result, Ok, Err}
use Rattle.std.specs.Borrow.{Bor}
use Rattle.rfc6386.specs.Decoder.{bits, State, whole, count_of, position, past}
use Rattle.rfc6386.specs.Reads.{Rd}
use Rattle.bool_decoder.specs.Engine as By
use Rattle.bool_decoder.specs.Refusal.{number_of}
use Rattle.bool_decoder.specs.declared.BoolDecoderState.{BoolDecoderState}
use Rattle.bool_decoder.specs.declared.Read.{Read}
use Rattle.bool_decoder.specs.declared.ReadRefusal.{ReadRefusal}
use Rattle.bool_decoder.specs.declared.bare.Shown.{Shown}

-- what the definition shows of a state: the snapshot, and all
abbrev pub seen_of : ℕ → State → BoolDecoderState
seen_of l s = record { range = s.r; value = whole l s; count = count_of s }

abbrev pub shown_of : ℕ → State → Shown
shown_of l s = record { position = position l s; past = past l s; range = s.r; value = whole l s; count = count_of s; bools = s.n }

module _ {D : Type 0} (area : D → Bor (List ℕ)) (state : D → State) where
  -- those over the area `at` as an engine
  abbrev pub over : Bor (List ℕ) → By.Engine
  over at = record { Dec = D; state_of = λ _ d. state d; Over = λ _ d. area d ≡ at }

  -- d is the decoder at the start of the area `at`
  abbrev pub Fresh : Bor (List ℕ) → D → Type 0
  Fresh at d = By.Fresh (over at) at.now d

  -- d has room for k bools more
  abbrev pub Room : D → ℕ → Type 0
  Room d k = (state d).n + k ≤ 16777216

  -- the reads m from d give a and leave d', over the same area, with at most k bools
  abbrev pub Ran : {A : Type 0} → Rd A → D → A → D → ℕ → Type 0
  Ran m d a d' k = By.Ran (over (area d)) m (area d).now d a d' k

  -- the position, and how many bits d has gone past the area's end
  abbrev pub position_of : D → ℕ
  position_of d = position (bits (area d).now) (state d)

  abbrev pub past_of : D → ℕ
  past_of d = past (bits (area d).now) (state d)

  -- the answer to a read of this width that wants so many bools; a refused one leaves the decoder as it was
  abbrev pub Meets : {A : Type 0} → Rd A → D → ℕ → ℕ → Result (Read A) ReadRefusal → D → Type 0
  Meets m d width wanted (Ok r) d' = By.Allows (over (area d)) m (area d).now d width wanted r.value r.past d'
  Meets m d width wanted (Err e) d' = By.Refuses (over (area d)) (area d).now d width wanted (number_of e) × (d' ≡ d)

  -- the number of the refusal of a read of this width that wants so many bools, 0 for none
  abbrev pub refusal : D → ℕ → ℕ → ℕ
  refusal d width wanted = By.refusal (over (area d)) (area d).now d width wanted

  -- such a read's answer, where all that is known of the read is what `gives` says of its value and of the decoder that it leaves
  abbrev pub Within : {A : Type 0} → (A → D → Type 0) → D → ℕ → ℕ → Result (Read A) ReadRefusal → D → Type 0
  Within gives d width wanted (Ok r) d' = (refusal d width wanted ≡ 0) × gives r.value d' × (r.past ≡ past_of d')
  Within gives d width wanted (Err e) d' = By.Refuses (over (area d)) (area d).now d width wanted (number_of e) × (d' ≡ d)
