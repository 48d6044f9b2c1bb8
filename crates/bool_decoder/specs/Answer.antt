-- What the bare decoder answers. For each case of an answer: the number of its refusal, or that nothing is refused, and what was read.
use Rattle.std.specs.Prelude.{ℕ, ◌+◌, ◌≡◌, Bool, ℤ, Result, Ok, Err}
use Rattle.rfc6386.specs.Reads.{Rd, bool, lit, sint}
use Rattle.bool_decoder.specs.Engine as By
use Rattle.bool_decoder.specs.Model.{over}
use Rattle.bool_decoder.specs.Refusal.{number_of}
use Rattle.bool_decoder.specs.declared.BoolDecoder.{BoolDecoder}
use Rattle.bool_decoder.specs.declared.Read.{Read}
use Rattle.bool_decoder.specs.declared.ReadRefusal.{ReadRefusal}

-- those of `Engine`, of the decoder
abbrev pub Refuses : BoolDecoder → ℕ → ℕ → ℕ → Type 0
Refuses d width wanted number = By.Refuses (over d.area) d.area.now d width wanted number

abbrev pub Allows : {A : Type 0} → Rd A → BoolDecoder → ℕ → ℕ → A → ℕ → BoolDecoder → Type 0
Allows m d width wanted a q d' = By.Allows (over d.area) m d.area.now d width wanted a q d'

-- the answer to a read of this width that wants so many bools; a refused one leaves the decoder as it was
abbrev pub Meets : {A : Type 0} → Rd A → BoolDecoder → ℕ → ℕ → Result (Read A) ReadRefusal → BoolDecoder → Type 0
Meets m d width wanted (Ok r) d' = Allows m d width wanted r.value r.past d'
Meets m d width wanted (Err e) d' = Refuses d width wanted (number_of e) × (d' ≡ d)

-- an answer, and the decoder after it
abbrev pub answered : {A : Type 0} → Result (Read A) ReadRefusal → BoolDecoder → Result (Read A) ReadRefusal × BoolDecoder
answered r d = (r, d)

abbrev pub BoolMeets : BoolDecoder → ℕ → Result (Read Bool) ReadRefusal → BoolDecoder → Type 0
BoolMeets d p r d' = Meets (bool p) d 1 1 r d'

abbrev pub UintMeets : BoolDecoder → ℕ → Result (Read ℕ) ReadRefusal → BoolDecoder → Type 0
UintMeets d n r d' = Meets (lit n) d n n r d'

abbrev pub SintMeets : BoolDecoder → ℕ → Result (Read ℤ) ReadRefusal → BoolDecoder → Type 0
SintMeets d n r d' = Meets (sint n) d n (n + 1) r d'
