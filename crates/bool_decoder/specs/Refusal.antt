-- The definition's numbers of the bare decoder's refusals.
use Rattle.std.specs.Prelude.{ℕ, Result, Ok, Err}
use Rattle.bool_decoder.specs.declared.ReadRefusal.{ReadRefusal}
use Rattle.bool_decoder.specs.declared.ReadRefusal.TheVariants.{EmptyArea, AreaTooLong, TooWide, TooManyBools}

abbrev pub number_of : ReadRefusal → ℕ
number_of EmptyArea = 4
number_of AreaTooLong = 6
number_of TooWide = 7
number_of TooManyBools = 8

-- the number by which a read is refused, 0 for none
abbrev pub refused_by : {A : Type 0} → Result A ReadRefusal → ℕ
refused_by (Ok a) = 0
refused_by (Err e) = number_of e
