-- The decimal digits step by step: a number below 10 is its digit, any other the digits of its tenth and its last digit. By induction on
-- the bound on how many there are, which plays no part where it is above the number itself.
use Prim.Native.Nat.{ℕ, zero, suc, ◌+◌, ◌/◌, ◌%◌, ◌≤◌, ◌<◌}
use native.Mathlib.Omega.{arith}
use native.Mathlib.Nat.{div-lt_self}
use mathlib.Core.Path.{◌≡◌, refl, ap, sym, ◌∙◌}
use mathlib.Core.Bool.{Bool, true, false}
use mathlib.Core.List.{List, [], ◌∷◌, ◌++◌}
use lib.Dec.{ltb}
use borrow.Author.Tests.{lt-ltb, le-ltb, ltb-true, ltb-false}
use Rattle.text.specs.Text.{Text, put, puts}
use Rattle.text.specs.Digits.{digits_of, decimal_of}
use Rattle.text.proofs.Puts.{puts_cons, puts_nil, then_one}

pub few : (most n : ℕ) → n < 10 → digits_of (suc most) n ≡ (48 + n) ∷ []
unfolding digits_of
few most n h = rw (lt-ltb n 10 h)

pub many : (most n : ℕ) → 10 ≤ n → digits_of (suc most) n ≡ digits_of most (n / 10) ++ ((48 + n % 10) ∷ [])
unfolding digits_of
many most n h = rw (le-ltb n 10 h)

-- below 10 or not
pub split : {P : Type 0} (n : ℕ) (b : Bool) → ltb n 10 ≡ b → (n < 10 → P) → (10 ≤ n → P) → P
split n true e f g = f (ltb-true n 10 e)
split n false e f g = g (ltb-false n 10 e)

pub tenth : (n : ℕ) → 10 ≤ n → n / 10 < n
tenth n h = div-lt_self {n = n} {k = 10} (omega arith) (omega arith)

same : (k m n : ℕ) → n < k → n < m → digits_of k n ≡ digits_of m n
same zero m n h g = absurd (omega arith)
same (suc k) zero n h g = absurd (omega arith)
same (suc k) (suc m) n h g =
    split n (ltb n 10) refl
    (λ s. few k n s ∙ sym (few m n s))
    (λ l.
    let t = tenth n l in
    many k n l
    ∙ ap (λ (ds : List ℕ). ds ++ ((48 + n % 10) ∷ [])) (same k m (n / 10) (omega arith) (omega arith))
    ∙ sym (many m n l))

pub one_digit : (n : ℕ) → n < 10 → decimal_of n ≡ (48 + n) ∷ []
unfolding decimal_of
one_digit n h = few n n h

pub last_digit : (n : ℕ) → 10 ≤ n → decimal_of n ≡ decimal_of (n / 10) ++ ((48 + n % 10) ∷ [])
unfolding decimal_of
last_digit n h =
    let t = tenth n h in
    many n n h ∙ ap (λ (ds : List ℕ). ds ++ ((48 + n % 10) ∷ [])) (same n (suc (n / 10)) (n / 10) (omega arith) (omega arith))

-- the same of a text: a digit put, and the digits of the tenth with the last digit after them
pub puts_one : (t u : Text) (n b : ℕ) → n < 10 → b ≡ 48 + n → u ≡ put t b → u ≡ puts t (decimal_of n)
puts_one t u n b h e d = rw (one_digit n h, ← e) (d ∙ sym (puts_cons t b [] ∙ puts_nil (put t b)))

pub puts_more : (t u v : Text) (n b : ℕ) → 10 ≤ n → u ≡ puts t (decimal_of (n / 10)) → b ≡ 48 + n % 10 → v ≡ put u b
    → v ≡ puts t (decimal_of n)
puts_more t u v n b h e m d = rw (last_digit n h, ← m) (then_one t u v (decimal_of (n / 10)) b e d)
