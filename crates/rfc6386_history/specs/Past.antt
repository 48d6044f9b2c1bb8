-- What the past may touch of an answer: the header's three groups of probabilities, and the state.
use Rattle.std.specs.Prelude.{ℕ, ◌≡◌, List}
use Rattle.vp8_records.specs.declared.Header.{Header}
use Rattle.vp8_records.specs.declared.Parsed.{Parsed}
use Rattle.rfc6386.specs.Coded.{Coded}
use Rattle.rfc6386.specs.Frame.{Chunk, Snapshot}
use Rattle.rfc6386.specs.Call.{Probs, header_of}

-- a part of a header in which the probabilities have no say
abbrev pub Blind : {A : Type 0} → (Header → A) → Type 0
Blind part =
    (k : Chunk) (c : Coded) (s : Snapshot) (ss : List ℕ) (q q' : Probs) → part (header_of k c s ss q) ≡ part (header_of k c s ss q')

-- two answers that differ in the header's probabilities and the state alone
pub record Alike (a b : Parsed) : Type 1 where
  pub outcome : a.outcome ≡ b.outcome
  pub header : {A : Type 0} (part : Header → A) → Blind part → part a.header ≡ part b.header
