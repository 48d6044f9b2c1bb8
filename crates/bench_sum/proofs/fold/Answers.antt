-- What the shift up leaves is a multiple of 32 and what comes in below is under 32, so their bits are apart and the `or` is a sum.
use Prim.Native.Nat.{ℕ, ◌*◌, ◌/◌, ◌%◌, ◌^◌, ◌<◌}
use native.Mathlib.Omega.{arith}
use mathlib.Core.Path.{◌≡◌, ap, ◌∙◌}
use lib.Bits.{bit_or, bit_xor, or_shifted}
use Rattle.bench_sum.specs.Sum.{rotated, folded}
use Rattle.bench_sum.proofs.fold.Goals as goal

up : (x : ℕ) → x * 2 ^ 5 % 2 ^ 64 ≡ x % 2 ^ 59 * 2 ^ 5
up x = omega arith

rotates : (x : ℕ) → x < 2 ^ 64 → bit_or (x * 2 ^ 5 % 2 ^ 64) (x / 2 ^ 59) ≡ rotated x
unfolding rotated
rotates x h = ap (λ (k : ℕ). bit_or k (x / 2 ^ 59)) (up x) ∙ or_shifted (x % 2 ^ 59) 5 (x / 2 ^ 59) (omega arith)

pub returns : goal.returns
unfolding folded
returns c = ap (λ (k : ℕ). bit_xor k c.args.number) (c.rotate_left.ensures ∙ rotates c.args.sum c.ranges.sum.fits)
