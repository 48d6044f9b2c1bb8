-- The answer of a lent call, an equation for each thing that its caller sees.
use Rattle.std.specs.Prelude.{ℕ, ◌≡◌, List, [], Ok, Err}
use Rattle.vp8_records.specs.declared.Header.{Header}
use Rattle.vp8_records.specs.declared.Mode.{Mode}
use Rattle.vp8_records.specs.declared.Parser.{Parser}
use Rattle.vp8_records.specs.Outcome.{Outcome}
use Rattle.rfc6386.specs.Call.{Asked, call, called}

-- the whole frame where it was accepted, and an empty part where it was refused
abbrev pub viewed : Outcome → List ℕ → List ℕ
viewed (Ok u) f = f
viewed (Err r) f = []

-- over a record that held p, a frame f in this mode: the answer's fields, the bytes it refers to, and what the record holds afterwards
pub record Framed (md : Mode) (p : Parser) (f : List ℕ) (outcome : Outcome) (header : Header) (part : List ℕ) (after : Parser)
    : Type 0 where
  pub says : outcome ≡ (call md p f).outcome
  pub reads : header ≡ (call md p f).header
  pub refers : part ≡ viewed (call md p f).outcome f
  pub leaves : after ≡ (call md p f).parser

-- what a caller has of one answer
pub record Had : Type 0 where
  pub outcome : Outcome
  pub header : Header
  pub part : List ℕ

-- the contract of `parse_frame` as one of a sequence: what is had of the answer, and what the record holds afterwards
abbrev pub Lent : Parser → Asked → Had → Parser → Type 0
Lent p x a q = Framed x.mode p x.frame a.outcome a.header a.part q

-- what the definition gives
abbrev pub had : Parser → Asked → Had
had p x = let r = called p x in record { outcome = r.outcome; header = r.header; part = viewed r.outcome x.frame }
