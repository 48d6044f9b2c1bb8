-- Decimal digits denote their number, and no number but 0 has a zero in front, so they are the fewest. By induction on the bound, as in
-- `Spelling`.
use Prim.Native.Nat.{ℕ, zero, suc, ◌+◌, ◌-◌, ◌*◌, ◌/◌, ◌%◌, ◌≤◌, ◌<◌}
use native.Mathlib.Omega.{arith}
use native.Mathlib.Nat.{div-add-mod', mod-lt}
use mathlib.Core.Path.{◌≡◌, refl, ap, sym, ◌∙◌}
use mathlib.Core.List.{List, [], ◌∷◌, ◌++◌}
use lib.Dec.{ltb}
use lib.ListN.{length, get_or, length-append, get_or-append}
use Rattle.text.specs.Digits.{digits_of, decimal_of, value_of}
use Rattle.text.proofs.Spelling.{few, many, split, tenth}

read_append : (a : ℕ) (xs ys : List ℕ) → value_of a (xs ++ ys) ≡ value_of (value_of a xs) ys
unfolding value_of
read_append a [] ys = refl
read_append a (x ∷ xs) ys = read_append (a * 10 + (x - 48)) xs ys

one : (n : ℕ) → value_of 0 ((48 + n) ∷ []) ≡ n
unfolding value_of
one n = omega arith

last : (n : ℕ) → value_of (n / 10) ((48 + n % 10) ∷ []) ≡ n
unfolding value_of
last n = omega (arith, div-add-mod' n 10)

denoted : (k n : ℕ) → n < k → value_of 0 (digits_of k n) ≡ n
denoted zero n h = absurd (omega arith)
denoted (suc k) n h =
    split n (ltb n 10) refl
    (λ s. ap (value_of 0) (few k n s) ∙ one n)
    (λ l.
    let t = tenth n l in
    ap (value_of 0) (many k n l)
    ∙ read_append 0 (digits_of k (n / 10)) ((48 + n % 10) ∷ [])
    ∙ ap (λ (a : ℕ). value_of a ((48 + n % 10) ∷ [])) (denoted k (n / 10) (omega arith))
    ∙ last n)

pub denotes : (n : ℕ) → value_of 0 (decimal_of n) ≡ n
unfolding decimal_of
denotes n = denoted (suc n) n (omega arith)

some : (k n : ℕ) → 0 < length (digits_of (suc k) n)
some k n =
    split n (ltb n 10) refl (λ s. rw (few k n s) (omega arith))
    (λ l. rw (many k n l, length-append (digits_of k (n / 10)) ((48 + n % 10) ∷ [])) (omega arith))

tens : (n : ℕ) → 10 ≤ n → n / 10 ≡ 0 → ⊥
tens n h e = omega (arith, div-add-mod' n 10, mod-lt n {m = 10} (omega arith))

zeroed : (k n : ℕ) → n < k → get_or (digits_of k n) 0 0 ≡ 48 → n ≡ 0
zeroed zero n h e = absurd (omega arith)
zeroed (suc zero) n h e = omega arith
zeroed (suc (suc k)) n h e =
    split n (ltb n 10) refl
    (λ s. let f : 48 + n ≡ 48 = rw (few (suc k) n s) at e in omega arith)
    (λ l.
    let t = tenth n l in
    let f = sym (get_or-append (digits_of (suc k) (n / 10)) ((48 + n % 10) ∷ []) 0 0 (some k (n / 10))) ∙ rw (many (suc k) n l) at e in
    absurd (tens n l (zeroed (suc k) (n / 10) (omega arith) f)))

pub no_zero_in_front : (n : ℕ) → get_or (decimal_of n) 0 0 ≡ 48 → n ≡ 0
unfolding decimal_of
no_zero_in_front n = zeroed (suc n) n (omega arith)
