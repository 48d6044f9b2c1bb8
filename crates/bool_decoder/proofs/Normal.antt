-- Doubling until R is 128 or more is one shift, by any k that brings R there. By induction on the doublings.
use mathlib.Core.Path.{◌≡◌, refl, sym, ap, ◌∙◌}
use Prim.Native.Nat.{ℕ, zero, suc, ◌+◌, ◌*◌, ◌/◌, ◌%◌, ◌^◌, ◌≤◌, ◌<◌}
use native.Mathlib.Nat.{mul_assoc, mul_comm, mul_right_comm, mul-one, add-mul, add-zero, pow-suc, mod-eq_of_lt, mod-lt, div-add-mod'}
use native.Mathlib.Nat.{le-mul_of_pos_right, mul-add-mod_self_right, not-suc-le-zero, le_of_suc-le-suc}
use native.Mathlib.Omega.{arith}
use borrow.Author.Tests.{le-leb, lt-leb}
use lib.Pow.{pow_pos}
use Rattle.rfc6386.specs.Decoder.{State, double, normal}

-- k doublings at once
abbrev pub shifted : ℕ → ℕ → State → State
shifted l k s = record { v = s.v * 2 ^ k % 2 ^ (l + 8); r = s.r * 2 ^ k; c = s.c + k; n = s.n }

two : (a k : ℕ) → a * 2 * 2 ^ k ≡ a * 2 ^ suc k
two a k = mul_assoc a 2 (2 ^ k) ∙ ap (λ (i : ℕ). a * i) (mul_comm 2 (2 ^ k) ∙ sym (pow-suc 2 k))

still : (l : ℕ) (s : State) → s.v < 2 ^ (l + 8) → s ≡ shifted l 0 s
still l s small = λ i. record {
  v = sym (ap (λ (x : ℕ). x % 2 ^ (l + 8)) (mul-one s.v) ∙ mod-eq_of_lt small) i;
  r = sym (mul-one s.r) i;
  c = sym (add-zero s.c) i;
  n = s.n;
}

-- what an early remainder drops, the last one would
mod_mul_mod : (a j m : ℕ) → a % m * j % m ≡ a * j % m
mod_mul_mod a j m =
    sym (mul-add-mod_self_right (a / m * j) m (a % m * j))
    ∙ ap (λ (i : ℕ). i % m)
    (omega
    (arith, mul_right_comm (a / m) j m, add-mul (a / m * m) (a % m) j, ap (λ (i : ℕ). i * j) (div-add-mod' a m)))

plus : (a k : ℕ) → a + 1 + k ≡ a + suc k
plus a k = omega arith

shifted_suc : (l k : ℕ) (s : State) → shifted l k (double l s) ≡ shifted l (suc k) s
unfolding double
shifted_suc l k s = λ i. record {
  v = (mod_mul_mod (s.v * 2) (2 ^ k) (2 ^ (l + 8)) ∙ ap (λ (x : ℕ). x % 2 ^ (l + 8)) (two s.v k)) i;
  r = two s.r k i;
  c = plus s.c k i;
  n = s.n;
}

pub normal_is : (f l k : ℕ) (s : State) → k ≤ f → 128 ≤ s.r * 2 ^ k → s.r * 2 ^ k < 256 → s.v < 2 ^ (l + 8)
    → normal f l s ≡ shifted l k s
unfolding normal double
normal_is zero l zero s h lo hi small = still l s small
normal_is zero l (suc k) s h lo hi small = absurd (not-suc-le-zero h)
normal_is (suc f) l zero s h lo hi small = rw (le-leb 128 s.r (rw mul-one at lo), normal) (still l s small)
normal_is (suc f) l (suc k) s h lo hi small =
    let e = two s.r k in
    let below : s.r < 128 = omega (arith, e, le-mul_of_pos_right (s.r * 2) (pow_pos k)) in
    rw (lt-leb 128 s.r below, normal)
    (normal_is f l k (double l s) (le_of_suc-le-suc h) (rw e lo) (rw e hi) (mod-lt (s.v * 2) (pow_pos (l + 8)))
    ∙ shifted_suc l k s)

-- a range of 128 or more is left alone
pub normal_high : (f l : ℕ) (s : State) → 128 ≤ s.r → normal f l s ≡ s
unfolding normal
normal_high zero l s h = refl
normal_high (suc f) l s h = rw (le-leb 128 s.r h, normal)
