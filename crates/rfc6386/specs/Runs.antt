-- What is written over what was there.
use Rattle.std.proofs.Math.Option.{Option, none, some}
use Rattle.std.specs.Prelude.{List, [], ◌∷◌}

-- what is written, or else what was there
abbrev pub or : {A : Type 0} → Option A → A → A
or none x = x
or (some y) x = y

-- the same of each number of a run; where nothing is given for any of them, all stay
unfoldable pub over : {A : Type 0} → List (Option A) → List A → List A
over [] xs = xs
over (u ∷ us) [] = []
over (u ∷ us) (x ∷ xs) = or u x ∷ over us xs
