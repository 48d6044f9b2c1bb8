-- Where two runs first differ.
use Rattle.std.specs.Prelude.{ℕ, suc, List, [], ◌∷◌, Bool, Option, None, Some, eqb}
use Rattle.rfc6386.specs.Decoder.{pick}

-- the first place, counted from n, where the second run has another entry or none, as a test of two entries tells
unfoldable pub apart_by : {X : Type 0} → (X → X → Bool) → ℕ → List X → List X → Option ℕ
apart_by eq n [] ys = None
apart_by eq n (x ∷ xs) [] = Some n
apart_by eq n (x ∷ xs) (y ∷ ys) = pick (eq x y) (apart_by eq (suc n) xs ys) (Some n)

-- of numbers
abbrev pub apart : ℕ → List ℕ → List ℕ → Option ℕ
apart n xs ys = apart_by eqb n xs ys
