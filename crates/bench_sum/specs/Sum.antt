-- A checksum of 64 bits: each number goes in by an exclusive or, after the bits before it were rotated.
use Rattle.std.specs.Prelude.{ℕ, ◌+◌, ◌*◌, ◌/◌, ◌%◌, ◌^◌, List}
use Rattle.std.specs.Int.Bits.{bit_xor}
use Rattle.std.specs.List.{fold}

-- 64 bits rotated five places up: the five highest come in below
unfoldable pub rotated : ℕ → ℕ
rotated sum = sum % 2 ^ 59 * 2 ^ 5 + sum / 2 ^ 59

unfoldable pub folded : ℕ → ℕ → ℕ
folded sum n = bit_xor (rotated sum) n

-- one number after the other
unfoldable pub folds : ℕ → List ℕ → ℕ
folds sum ns = fold folded sum ns
