-- The highest set bit of the range is bit j, by the kit's law of a count of leading zeros, and the 7 - j zeros above it bring it to bit 7.
use mathlib.Core.Path.{◌≡◌, ap}
use Prim.Native.Nat.{ℕ, suc, ◌+◌, ◌*◌, ◌^◌, ◌≤◌, ◌<◌}
use native.Mathlib.Nat.{mul-le-mul_right}
use native.Mathlib.Omega.{arith}
use lib.Pow.{pow-add, shl_lt}
use lib.Count.{count_leading_zeros, leading_top}
use Rattle.bool_decoder.proofs.norm.norm.Goals as goal

raised : (a j z : ℕ) → z + suc j ≡ 8 → 2 ^ j ≤ a → a < 2 ^ suc j → (128 ≤ a * 2 ^ z) × (a * 2 ^ z < 256) × (z ≤ 7)
raised a j z e low high =
    let seven : j + z ≡ 7 = omega arith in
    let eight : suc j + z ≡ 8 = omega arith in (
      omega (arith, mul-le-mul_right (2 ^ z) low, pow-add 2 j z, ap (λ (i : ℕ). 2 ^ i) seven),
      omega (arith, shl_lt (suc j) z high, ap (λ (i : ℕ). 2 ^ i) eight),
      omega arith,
    )

pub returns : goal.returns
returns c = let range = c.args.range in
    let top = leading_top 8 range c.requires.0 c.requires.1 in
    raised range top.0 (count_leading_zeros 8 range) top.1 top.2 top.3
