-- A magnitude below 128 and its sign fit an i8, and go through the machine's words unchanged.
use Prim.Native.Nat.{ℕ, ◌^◌, ◌≤◌, ◌<◌}
use native.Mathlib.Omega.{arith}
use native.Mathlib.Nat.{lt_of_lt_of_le}
use mathlib.Core.Path.{◌≡◌, ap, ◌∙◌}
use lib.IntN.{ℤ}
use lib.Pow.{pow_mono}
use lib.Signed.{mag}
use mir.Facts.{to_z-of_z}
use mir.Syntax.{w8, w32}
use mir.Val.{SFits, to_z, of_z}

module _ (w : ℕ) (z : ℤ) (narrow : w ≤ 7) (small : mag z < 2 ^ w) where
  below : mag z < 128
  below = lt_of_lt_of_le small (pow_mono {j = 7} narrow)

  pub fits : SFits w8 z
  fits = let h = below in record { sfits = omega arith }

  pub wide : to_z w32 (of_z w32 z) ≡ z
  wide = let h = below in to_z-of_z {w = w32} {z = z} (record { sfits = omega arith })

  pub through : to_z w8 (of_z w8 (to_z w32 (of_z w32 z))) ≡ z
  through = ap (λ (y : ℤ). to_z w8 (of_z w8 y)) wide ∙ to_z-of_z {w = w8} {z = z} fits
