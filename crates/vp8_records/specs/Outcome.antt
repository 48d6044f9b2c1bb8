-- The one table of outcomes: the number of each, and the values that it carries (docs/RULES.md).
use Rattle.std.specs.Prelude.{ℕ, List, [], ◌∷◌, Result, Ok, Err}
use Rattle.vp8_records.specs.declared.Refusal.{Refusal}
use Rattle.vp8_records.specs.declared.Refusal.TheVariants.{ChunkTooShort, InvalidStartCode, InvalidPartitionSize, EmptyArea, EndOfHeader, FrameTooLong}
use Rattle.vp8_records.specs.declared.PeekRefusal.{PeekRefusal}
use Rattle.vp8_records.specs.declared.PeekRefusal.TheVariants.{TooShort, StartCode}

-- how a call went: `Ok tt` where a header was read and the partitions lie within the frame
abbrev pub Outcome : Type 0
Outcome = Result (Unit {0}) Refusal

pub record Told : Type 0 where
  pub number : ℕ
  pub carried : List ℕ

-- 0 for an accepted frame; 2 carries the code found, 3 the first partition's end and the frame's length, 6 the frame's length
abbrev pub told : Outcome → Told
told (Ok u) = record { number = 0; carried = [] }
told (Err ChunkTooShort) = record { number = 1; carried = [] }
told (Err (InvalidStartCode code)) = record { number = 2; carried = code ∷ [] }
told (Err (InvalidPartitionSize end length)) = record { number = 3; carried = end ∷ length ∷ [] }
told (Err EmptyArea) = record { number = 4; carried = [] }
told (Err EndOfHeader) = record { number = 5; carried = [] }
told (Err (FrameTooLong length)) = record { number = 6; carried = length ∷ [] }

abbrev pub number_of : Outcome → ℕ
number_of o = (told o).number

abbrev pub carried_by : Outcome → List ℕ
carried_by o = (told o).carried

-- what a look refuses by, among the refusals of a call
abbrev pub refusal_of : PeekRefusal → Refusal
refusal_of TooShort = ChunkTooShort
refusal_of (StartCode code) = InvalidStartCode code
