-- The calls that a recording leads to: one for each listed frame, in the file's order, all in one mode.
use Rattle.std.specs.Prelude.{ℕ, ◌≡◌, List, map}
use Rattle.vp8_records.specs.declared.Mode.{Mode}
use Rattle.vp8_records.specs.declared.Parser.{Parser}
use Rattle.vp8_records.specs.Shape.{Sized}
use Rattle.rfc6386.specs.Call.{Asked, after}
use Rattle.ivf.specs.Walk.{walked, bytes_of}
use Rattle.ivf.specs.Listed.{room, Listed}
use Rattle.vp8_recording.specs.declared.Played.{Played}

abbrev pub asks : Mode → List ℕ → Asked
asks md f = record { mode = md; frame = f }

abbrev pub all_in : Mode → List (List ℕ) → List Asked
all_in md fs = map (asks md) fs

-- the contract of `play_in` over a file f: the walk's, and the parser after a call for each frame that it lists. That p is sized is no
-- promise but known of every parser that a caller can pass, and here for those who use the contract
pub record Plays (md : Mode) (p : Parser) (f : List ℕ) (r : Played) (os os' ls ls' : List ℕ) : Type 0 where
  pub listed : Listed f r.walked os os' ls ls'
  pub parser : r.parser ≡ after p (all_in md (bytes_of f (walked (room os ls) f).frames))
  pub sized : Sized p
