-- Five wrong parsers, each a property of a function from a record and a frame to an answer. None that has it meets the contract of
-- `parse`, or of `parse_in` in either mode (proofs/Wrong.antt).
use Rattle.std.specs.Prelude.{ℕ, ◌≡◌, List, Ok}
use Rattle.vp8_records.specs.declared.Header.{Header}
use Rattle.vp8_records.specs.declared.Mode.{Mode}
use Rattle.vp8_records.specs.declared.Parsed.{Parsed}
use Rattle.vp8_records.specs.declared.Parser.{Parser}
use Rattle.vp8_records.specs.Start.{fresh}
use Rattle.rfc6386.specs.Call.{call}

abbrev pub Function : Type 0
Function = Parser → List ℕ → Parsed

-- it meets the contract of `parse_in`, in one of the modes; in the Rust's, that of `parse`
abbrev pub Meets : Mode → Function → Type 0
Meets md g = (p : Parser) (f : List ℕ) → g p f ≡ call md p f

-- 1: it refuses every frame
abbrev pub RefusesAll : Function → Type 0
RefusesAll g = (p : Parser) (f : List ℕ) → (g p f).outcome ≡ Ok tt → ⊥

-- 2: every accepted frame has this header
abbrev pub FixedHeader : Header → Function → Type 0
FixedHeader h g = (p : Parser) (f : List ℕ) → (g p f).outcome ≡ Ok tt → (g p f).header ≡ h

-- 3: it hands the record back untouched
abbrev pub Untouched : Function → Type 0
Untouched g = (p : Parser) (f : List ℕ) → (g p f).parser ≡ p

-- 4: over one parser, a second call answers as the first did
abbrev pub Repeats : Function → Type 0
Repeats g = (f f' : List ℕ) → (g (g fresh f).parser f').header ≡ (g fresh f).header

-- 5: it invents its count of bools: for some frame that is to be accepted, over some record, it is not the definition's
pub record Invents (md : Mode) (g : Function) : Type 0 where
  pub parser : Parser
  pub frame : List ℕ
  pub accepted : (call md parser frame).outcome ≡ Ok tt
  pub other : (g parser frame).header.bools ≡ (call md parser frame).header.bools → ⊥

-- as one that always gives the same count
abbrev pub Constant : ℕ → Function → Type 0
Constant n g = (p : Parser) (f : List ℕ) → (g p f).header.bools ≡ n
