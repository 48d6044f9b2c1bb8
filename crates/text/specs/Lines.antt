-- Lines with a number in front of each.
use Rattle.std.specs.Prelude.{ℕ, Bool, true, cond, List, [], ◌∷◌, ◌++◌, eqb}
use Rattle.text.specs.Digits.{decimal_of}

-- the rest of some lines, and whether its first byte begins one; a line ends with a line feed
unfoldable pub numbered_from : ℕ → Bool → List ℕ → List ℕ
numbered_from n begins [] = []
numbered_from n begins (c ∷ cs) = cond begins (decimal_of n ++ (32 ∷ [])) [] ++ (c ∷ numbered_from n (eqb c 10) cs)

-- all of them, the number and a space in front of each
abbrev pub numbered : ℕ → List ℕ → List ℕ
numbered n cs = numbered_from n true cs
