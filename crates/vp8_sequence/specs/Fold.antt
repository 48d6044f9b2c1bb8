-- Frames over one parser: the state after them, and how many were accepted.
use Rattle.std.specs.Prelude.{ℕ, ◌+◌, ◌≡◌, List, [], ◌∷◌, Ok, Err}
use Rattle.vp8_records.specs.declared.Parsed.{Parsed}
use Rattle.vp8_records.specs.declared.Parser.{Parser}
use Rattle.vp8_records.specs.Mode.{mode_of}
use Rattle.vp8_records.specs.Outcome.{Outcome}
use Rattle.vp8_records.specs.Shape.{Sized}
use Rattle.rfc6386.specs.Call.{Asked, calls, after}

-- each frame in its own mode, by number; as the Rust reads where there are no more modes
unfoldable pub asked : List ℕ → List (List ℕ) → List Asked
asked ms [] = []
asked [] (f ∷ fs) = record { mode = mode_of 0; frame = f } ∷ asked [] fs
asked (m ∷ ms) (f ∷ fs) = record { mode = mode_of m; frame = f } ∷ asked ms fs

abbrev pub one : Outcome → ℕ
one (Ok u) = 1
one (Err r) = 0

-- how many of a list of answers are accepted
unfoldable pub accepted : List Parsed → ℕ
accepted [] = 0
accepted (r ∷ rs) = one r.outcome + accepted rs

-- the contract of `parse_frames`, over the parser p and these calls: the parser that is left, and the count. That p is sized is no
-- promise but known of every parser that a caller can pass, and here for those who use the contract
pub record Folds (p : Parser) (xs : List Asked) (q : Parser) (n : ℕ) : Type 0 where
  pub state : q ≡ after p xs
  pub count : n ≡ accepted (calls p xs)
  pub sized : Sized p
