-- One bool, of a window of any width: S lies in 1 .. R - 1, and the bool is read of the window as of the V that the window holds.
use mathlib.Core.Path.{◌≡◌}
use mathlib.Core.Bool.{true, false}
use Prim.Native.Nat.{ℕ, ◌+◌, ◌-◌, ◌*◌, ◌/◌, ◌^◌, ◌≤◌, ◌<◌}
use native.Mathlib.Nat.{mul-le-mul, mul-lt-mul_of_pos_left, div-lt_iff_lt-mul}
use native.Mathlib.Omega.{arith}
use borrow.Author.Tests.{le-leb, lt-leb}
use lib.Dec.{leb, lit<}
use Rattle.rfc6386.specs.Decoder.{State, normal, split, chosen, read_bool}
use Rattle.bool_decoder.specs.Window.{Holds}
use Rattle.bool_decoder.specs.Engine.{out}
use Rattle.bool_decoder.proofs.Laws.{one_is, zero_is}

-- the product in S fits, and S is below R
pub product : (r p : ℕ) → r < 256 → p < 256 → (r - 1) * p ≤ 255 * 255
product r p h g = mul-le-mul {n₁ = r - 1} {m₁ = p} {n₂ = 255} {m₂ = 255} (omega arith) (omega arith)

pub split_below : (r p : ℕ) → 128 ≤ r → p < 256 → split r p < r
split_below r p h g =
    let q : (r - 1) * p / 256 < r - 1 = (div-lt_iff_lt-mul {k = 256} (lit< tt)).1 (mul-lt-mul_of_pos_left g (omega arith)) in
    omega arith

-- a state with another range and v, and one bool more
abbrev pub counted : State → ℕ → ℕ → State
counted s r v = record { v = v; r = r; c = s.c; n = s.n + 1 }

module _ (l p m e x w : ℕ) {g : ℕ} (s : State) (H : Holds m (2 ^ l) e x s.v w) (bx : x < 2 ^ l) (is : g ≡ split s.r p) where
  pub picks_one : g * 2 ^ m ≤ w → read_bool l p s ≡ out true (normal 7 l (counted s (s.r - g) (s.v - g * 2 ^ l)))
  unfolding read_bool chosen
  picks_one h =
      let t : leb (g * 2 ^ l) s.v ≡ true = le-leb _ _ (one_is m (2 ^ l) e x s.v w H bx g h) in
      rw (← is, t)

  pub picks_zero : e ≤ m → w < g * 2 ^ m → read_bool l p s ≡ out false (normal 7 l (counted s g s.v))
  unfolding read_bool chosen
  picks_zero le h =
      let t : leb (g * 2 ^ l) s.v ≡ false = lt-leb _ _ (zero_is m (2 ^ l) e x s.v w H bx g le h) in
      rw (← is, t)
