-- A read of the bare decoder, whichever engine makes it: what it asks for, and what it answers.
use Rattle.std.specs.Prelude.{ℕ, zero, suc, ◌+◌, ◌≡◌, Bool, List, ℤ, length}
use Rattle.rfc6386.specs.Decoder.{State, Out, bits, refusal_of}
use Rattle.rfc6386.specs.Reads.{Rd, run, bool, lit, sint, make}
use Rattle.bool_decoder.specs.Engine.{Engine, out, past_of}

-- what a read gives: a bool, a literal, a signed literal; or nothing, and the number of its refusal
pub data Value : Type 0 where
  Bit : Bool → Value
  Plain : ℕ → Value
  Signed : ℤ → Value
  Refused : ℕ → Value

-- a width, which is limited, the bools that it wants, and its tree
pub record Ask : Type 0 where
  pub width : ℕ
  pub wanted : ℕ
  pub tree : Rd Value

-- a bool at a probability, a literal and a signed literal of a width
abbrev pub ask_bool : ℕ → Ask
ask_bool p = record { width = 1; wanted = 1; tree = make Bit (bool p) }

abbrev pub ask_plain : ℕ → Ask
ask_plain w = record { width = w; wanted = w; tree = make Plain (lit w) }

abbrev pub ask_signed : ℕ → Ask
ask_signed w = record { width = w; wanted = w + 1; tree = make Signed (sint w) }

-- by the number of a refusal, 0 for none: a refused read leaves the state
abbrev pub or_refused : ℕ → State → Out Value → Out Value
or_refused zero s o = o
or_refused (suc k) s o = out (Refused (suc k)) s

-- what the bare decoder answers
unfoldable pub answered : List ℕ → Ask → State → Out Value
answered area a s = or_refused (refusal_of (length area) a.width a.wanted s.n) s (run a.tree (bits area) s)

-- the decoder d of an engine answers v, and leaves d', which is q bits past the end
pub record Gives (E : Engine) (area : List ℕ) (a : Ask) (d : E.Dec) (v : Value) (q : ℕ) (d' : E.Dec) : Type 0 where
  pub is : answered area a (E.state_of area d) ≡ out v (E.state_of area d')
  pub past : q ≡ past_of E area d'
  pub over : E.Over area d'
