-- A line with places for numbers: its words in ASCII, and a bar where a number stands.
use Rattle.std.specs.Prelude.{ℕ, cond, List, [], ◌∷◌, ◌++◌, eqb}
use Prim.Native.Char.{code}
use Prim.Native.String.{String, [] as none, ◌∷◌ as ◌and◌}
use Rattle.text.specs.Digits.{decimal_of}

-- the bytes of a word
abbrev pub ascii : String → List ℕ
ascii none = []
ascii (c and s) = code c ∷ ascii s

-- the numbers in the places of the bars, in decimal; a bar for which there is none is left out
unfoldable pub filled : List ℕ → List ℕ → List ℕ
filled [] ns = []
filled (c ∷ cs) [] = cond (eqb c 124) (filled cs []) (c ∷ filled cs [])
filled (c ∷ cs) (n ∷ ns) = cond (eqb c 124) (decimal_of n ++ filled cs ns) (c ∷ filled cs (n ∷ ns))
