-- A window of m + 8 bits against V: what a comparison, a subtraction, a shift and a byte do to it. Plain numbers, for every width:
-- b is 2 ^ bits, e the free bits at the window's low end, x the bytes still to come. Each law clears denominators and compares multiples.
use mathlib.Core.Path.{◌≡◌, sym, ap, ◌∙◌, subst}
use Prim.Native.Nat.{ℕ, ◌+◌, ◌-◌, ◌*◌, ◌/◌, ◌%◌, ◌^◌, ◌≤◌, ◌<◌}
use native.Mathlib.Nat.{add-mul, mul_assoc, mul_comm, mul_right_comm, mul_left_comm, mul-sub, suc-mul, add-zero, one-mul, sub-add_cancel}
use native.Mathlib.Nat.{mul-div_cancel, add-sub_cancel}
use native.Mathlib.Nat.{mul-le-mul_right, mul-lt-mul_of_pos_right, le_of_mul-le-mul_right, lt_of_mul-lt-mul_right}
use native.Mathlib.Nat.{mod-lt, mul-mod_left, div-add-mod', div-mul-le_self, lt-div-mul-add, div-eq_of_lt-le}
use native.Mathlib.Omega.{arith}
use lib.Arith.{digits_mod}
use lib.Pow.{pow_pos, pow-add, mod-pow-add, shl-shr}
use Rattle.bool_decoder.specs.Window.{Holds}

-- two multiples of g lie g apart
gap : (g i j : ℕ) → i * g < j * g → i * g + g ≤ j * g
gap g i j h = subst (λ (k : ℕ). k ≤ j * g) (suc-mul i g) (mul-le-mul_right g (lt_of_mul-lt-mul_right g h))

multiple : (a k e : ℕ) → e ≤ k → a * 2 ^ k ≡ a * 2 ^ (k - e) * 2 ^ e
multiple a k e h =
    ap (λ (i : ℕ). a * 2 ^ i) (sym (sub-add_cancel h)) ∙ ap (λ (i : ℕ). a * i) (pow-add 2 (k - e) e)
    ∙ sym (mul_assoc a (2 ^ (k - e)) (2 ^ e))

diff : (g i j : ℕ) → i * g - j * g ≡ (i - j) * g
diff g i j = rw (mul_comm (i - j) g, mul-sub g i j, mul_comm i g, mul_comm j g)

-- a multiple of 2 ^ e below another lies 2 ^ e below it
apart : (w h e a k : ℕ) → w ≡ h * 2 ^ e → e ≤ k → w < a * 2 ^ k → w + 2 ^ e ≤ a * 2 ^ k
apart w h e a k z le l =
    let l2 : h * 2 ^ e < a * 2 ^ (k - e) * 2 ^ e = rw (← z, ← multiple a k e le) l in
    rw (z, multiple a k e le) (gap (2 ^ e) h (a * 2 ^ (k - e)) l2)

-- what a shift by k leaves of h below 2 ^ n ends in k zeros, and 2 ^ k more still fit
low_zeros : (h j k n : ℕ) → j + k ≡ n → h * 2 ^ k % 2 ^ n ≡ h % 2 ^ j * 2 ^ k
low_zeros h j k n s = rw (← s, mod-pow-add (h * 2 ^ k) j k, shl-shr h k, mul-mod_left h (2 ^ k), add-zero)

room : (h j k n : ℕ) → j + k ≡ n → h % 2 ^ j * 2 ^ k + 2 ^ k ≤ 2 ^ n
room h j k n s =
    rw (← s, pow-add 2 j k, ← suc-mul (h % 2 ^ j) (2 ^ k)) (mul-le-mul_right (2 ^ k) (mod-lt h (pow_pos j)))

below : (n b x w g : ℕ) → x < b → 0 < g → w + g ≤ n → w * b + x * g < n * b
below n b x w g bx hg h =
    omega (arith, mul-le-mul_right b h, add-mul w g b, mul-lt-mul_of_pos_right bx hg, mul_comm b g)

-- the window's modulus and V's
top : (m b : ℕ) → 2 ^ (m + 8) * b ≡ 256 * b * 2 ^ m
top m b = ap (λ (i : ℕ). i * b) (pow-add 2 m 8 ∙ mul_comm (2 ^ m) 256) ∙ mul_right_comm 256 (2 ^ m) b

-- the exact equation after a shift, up to multiples of the modulus: p of them are dropped from V, q from the window
shift_exact : (m b x v w e k p v' q w' : ℕ) → v * 2 ^ m ≡ w * b + x * 2 ^ e
    → p * (256 * b) + v' ≡ v * 2 ^ k → q * 2 ^ (m + 8) + w' ≡ w * 2 ^ k
    → p * (2 ^ (m + 8) * b) + v' * 2 ^ m ≡ q * (2 ^ (m + 8) * b) + (w' * b + x * 2 ^ (e + k))
shift_exact m b x v w e k p v' q w' ex hp hq =
    omega (
      arith,
      ap (λ (i : ℕ). p * i) (top m b),
      mul_assoc p (256 * b) (2 ^ m),
      ap (λ (i : ℕ). i * 2 ^ m) hp,
      add-mul (p * (256 * b)) v' (2 ^ m),
      ap (λ (i : ℕ). i * 2 ^ k) ex,
      mul_right_comm v (2 ^ m) (2 ^ k),
      add-mul (w * b) (x * 2 ^ e) (2 ^ k),
      mul_right_comm w b (2 ^ k),
      mul_assoc x (2 ^ e) (2 ^ k),
      ap (λ (i : ℕ). x * i) (pow-add 2 e k),
      ap (λ (i : ℕ). i * b) hq,
      add-mul (q * 2 ^ (m + 8)) w' b,
      mul_assoc q (2 ^ (m + 8)) b,
    )

module _ (m b e x v w : ℕ) (H : Holds m b e x v w) where
  -- the v that a window holds is the one that it makes with the bytes to come
  pub made_is : (w * b + x * 2 ^ e) / 2 ^ m ≡ v
  made_is = ap (λ (i : ℕ). i / 2 ^ m) (sym H.exact) ∙ mul-div_cancel v (pow_pos m)

  -- and the window is what is left of it without them
  pub window_is : 0 < b → (v * 2 ^ m - x * 2 ^ e) / b ≡ w
  window_is pos =
      ap (λ (i : ℕ). (i - x * 2 ^ e) / b) H.exact ∙ ap (λ (i : ℕ). i / b) (add-sub_cancel (w * b) (x * 2 ^ e)) ∙ mul-div_cancel w pos

-- e zeros at the end of w, as a multiple of 2 ^ e and the other way round
pub ends : (w e : ℕ) → w % 2 ^ e ≡ 0 → w ≡ w / 2 ^ e * 2 ^ e
ends w e z = omega (arith, div-add-mod' w (2 ^ e), z)

pub ended : (w e h : ℕ) → w ≡ h * 2 ^ e → w % 2 ^ e ≡ 0
ended w e h is = ap (λ (i : ℕ). i % 2 ^ e) is ∙ mul-mod_left h (2 ^ e)

module _ (m b e x v w : ℕ) (H : Holds m b e x v w) (bx : x < b) where
  -- the window compares with a split as V does
  pub one_is : (s : ℕ) → s * 2 ^ m ≤ w → s * b ≤ v
  one_is s h =
      le_of_mul-le-mul_right {k = 2 ^ m}
      (omega (arith, mul-le-mul_right b h, mul_right_comm s (2 ^ m) b, H.exact)) (pow_pos m)

  pub zero_is : (s : ℕ) → e ≤ m → w < s * 2 ^ m → v < s * b
  zero_is s le h =
      lt_of_mul-lt-mul_right (2 ^ m)
      (omega (
        arith,
        mul-le-mul_right b (apart w (w / 2 ^ e) e s m (ends w e H.zeros) le h),
        mul_right_comm s (2 ^ m) b,
        H.exact,
        add-mul w (2 ^ e) b,
        mul-lt-mul_of_pos_right bx (pow_pos e),
        mul_comm b (2 ^ e),
      ))

  pub whole_is : e ≤ m → v / b ≡ w / 2 ^ m
  whole_is le =
      div-eq_of_lt-le b (one_is (w / 2 ^ m) (div-mul-le_self w (2 ^ m)))
      (zero_is (w / 2 ^ m + 1) le
      (omega (arith, lt-div-mul-add {a = w} (pow_pos m), add-mul (w / 2 ^ m) 1 (2 ^ m), one-mul (2 ^ m))))

  pub v_below : e ≤ m → v < 256 * b
  v_below le = zero_is 256 le (omega (arith, H.small, pow-add 2 m 8))

  -- a bool of 1 takes the split off both
  pub less : (s : ℕ) → e ≤ m → s * 2 ^ m ≤ w → Holds m b e x (v - s * b) (w - s * 2 ^ m)
  less s le h = record {
    exact =
        omega (
          arith,
          diff (2 ^ m) v (s * b),
          mul-le-mul_right (2 ^ m) (one_is s h),
          H.exact,
          ap (λ (i : ℕ). i * b) (sub-add_cancel h),
          add-mul (w - s * 2 ^ m) (s * 2 ^ m) b,
          mul_right_comm s (2 ^ m) b,
        );
    zeros =
        ended (w - s * 2 ^ m) e (w / 2 ^ e - s * 2 ^ (m - e))
        (rw (multiple s m e le)
        (ap (λ (i : ℕ). i - s * 2 ^ (m - e) * 2 ^ e) (ends w e H.zeros) ∙ diff (2 ^ e) (w / 2 ^ e) (s * 2 ^ (m - e))));
    small = omega (arith, H.small);
  }

  -- a shift by k drops from both what reaches 256
  pub shift : (k : ℕ) → e + k ≤ m + 8 → Holds m b (e + k) x (v * 2 ^ k % (256 * b)) (w * 2 ^ k % 2 ^ (m + 8))
  shift k le =
      let v' = v * 2 ^ k % (256 * b) in
      let w' = w * 2 ^ k % 2 ^ (m + 8) in
      let p = v * 2 ^ k / (256 * b) in
      let q = w * 2 ^ k / 2 ^ (m + 8) in
      let h = w / 2 ^ e in
      let n = 2 ^ (m + 8) * b in
      let j = m + 8 - (e + k) in
      let up : w * 2 ^ k ≡ h * 2 ^ (e + k) =
      ap (λ (i : ℕ). i * 2 ^ k) (ends w e H.zeros) ∙ mul_assoc h (2 ^ e) (2 ^ k) ∙ ap (λ (i : ℕ). h * i) (sym (pow-add 2 e k)) in
      let lows : w' ≡ h % 2 ^ j * 2 ^ (e + k) =
      ap (λ (i : ℕ). i % 2 ^ (m + 8)) up ∙ low_zeros h j (e + k) (m + 8) (sub-add_cancel le) in
      let fit1 : v' * 2 ^ m < n =
      omega (arith, top m b, mul-lt-mul_of_pos_right (mod-lt (v * 2 ^ k) {m = 256 * b} (omega arith)) (pow_pos m)) in
      let fit2 : w' * b + x * 2 ^ (e + k) < n =
      below (2 ^ (m + 8)) b x w' (2 ^ (e + k)) bx (pow_pos (e + k)) (rw lows (room h j (e + k) (m + 8) (sub-add_cancel le))) in
      record {
        exact = sym (digits_mod p fit1)
            ∙ ap (λ (i : ℕ). i % n)
            (shift_exact m b x v w e k p v' q w' H.exact (div-add-mod' (v * 2 ^ k) (256 * b)) (div-add-mod' (w * 2 ^ k) (2 ^ (m + 8))))
            ∙ digits_mod q fit2;
        zeros = ended w' (e + k) (h % 2 ^ j) lows;
        small = mod-lt (w * 2 ^ k) (pow_pos (m + 8));
      }

-- a byte y into eight free bits; x' is still to come
pub take_byte : (m b e x v w : ℕ) → Holds m b (e + 8) x v w → e ≤ m → (y x' : ℕ) → y < 256 → x * 256 ≡ y * b + x'
    → Holds m b e x' v (w + y * 2 ^ e)
take_byte m b e x v w H le y x' hy step =
    let h = w / 2 ^ (e + 8) in
    record {
      exact =
          omega (
            arith,
            H.exact,
            add-mul w (y * 2 ^ e) b,
            mul_right_comm y (2 ^ e) b,
            ap (λ (i : ℕ). x * i) (pow-add 2 e 8),
            mul_left_comm x (2 ^ e) 256,
            mul_comm (2 ^ e) (x * 256),
            ap (λ (i : ℕ). i * 2 ^ e) step,
            add-mul (y * b) x' (2 ^ e),
          );
      zeros = ended (w + y * 2 ^ e) e (h * 256 + y)
          (omega (
            arith,
            ends w (e + 8) H.zeros,
            ap (λ (i : ℕ). h * i) (pow-add 2 e 8),
            mul_assoc h (2 ^ e) 256,
            add-mul (h * 256) y (2 ^ e),
            mul_right_comm h 256 (2 ^ e),
          ));
      small =
          omega (
            arith,
            apart w h (e + 8) 1 (m + 8) (ends w (e + 8) H.zeros) (omega arith) (omega (arith, H.small)),
            mul-lt-mul_of_pos_right hy (pow_pos e),
            pow-add 2 e 8,
          );
    }
