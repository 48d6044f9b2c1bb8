-- The number that bench/decoder compares: the places of the set flags, folded into a checksum.
use Rattle.std.specs.Prelude.{ℕ, suc, Bool, List, [], ◌∷◌}
use Rattle.vp8_probs.specs.Tables.{coeff_update}
use Rattle.rfc6386.specs.Decoder.{bits, start, pick}
use Rattle.rfc6386.specs.Reads.{bool, each, run}
use Rattle.bench_sum.specs.Sum.{folded}

-- one flag, at its place
abbrev pub marked : ℕ → Bool → ℕ → ℕ
marked sum set place = pick set (folded sum place) sum

-- flags at the places from i on
unfoldable pub marks : ℕ → ℕ → List Bool → ℕ
marks sum i [] = sum
marks sum i (b ∷ bs) = marks (marked sum b i) (suc i) bs

-- the sum over a bool at each of the update probabilities (RFC 6386 section 13.4), read from the area's start
unfoldable pub sum_of : List ℕ → ℕ
sum_of area = marks 0 0 (run (each bool coeff_update) (bits area) (start area)).got
