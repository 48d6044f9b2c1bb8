-- The bytes still to come, as a number: one byte less at each step, and 0 past the end. By induction on the area.
use mathlib.Core.Path.{◌≡◌, refl, sym, ap, ◌∙◌, subst}
use mathlib.Core.List.{List, [], ◌∷◌, ◌++◌}
use Prim.Native.Nat.{ℕ, zero, suc, ◌+◌, ◌*◌, ◌^◌, ◌<◌, ◌≤◌, min}
use native.Mathlib.Nat.{add-mul, mul_assoc, mul_comm, mul_right_comm, mul-suc, zero-mul, pow-suc, mul-one, mul-lt-mul_of_pos_right}
use native.Mathlib.Numerals.{add-one}
use native.Mathlib.Omega.{arith}
use lib.Arith.{digits_lt}
use lib.Pow.{pow-add}
use lib.Dec.{lit<}
use lib.ListN.{length, get_or, take, drop, replicate}
use Rattle.std.specs.Int.{w64, from_be_bytes}
use Rattle.rfc6386.specs.Decoder.{number, bits}
use Rattle.bool_decoder.specs.Window.{rest}

bytes_bits : (n : ℕ) → 256 ^ n ≡ 2 ^ (8 * n)
bytes_bits zero = refl
bytes_bits (suc n) = rw (pow-suc 256 n, mul-suc 8 n, pow-add 2 (8 * n) 8, bytes_bits n)

number_lt : (area : List ℕ) → ((i : ℕ) → get_or area i 0 < 256) → number area < 256 ^ length area
unfolding number
number_lt [] f = lit< tt
number_lt (x ∷ xs) f =
    subst (λ (k : ℕ). x * 256 ^ length xs + number xs < k) (mul_comm 256 (256 ^ length xs) ∙ sym (pow-suc 256 (length xs)))
    (digits_lt (f 0) (number_lt xs (λ i. f (suc i))))

pub rest_zero : (area : List ℕ) → rest area 0 ≡ number area
unfolding rest
rest_zero area = mul-one (number area)

rest_cons : (x : ℕ) (xs : List ℕ) (t : ℕ) → rest (x ∷ xs) (suc t) ≡ rest xs t * 256
unfolding rest
rest_cons x xs t = rw (pow-suc 256 t, mul_assoc (number (drop t xs)) (256 ^ t) 256)

step : (area : List ℕ) (t : ℕ) → rest area t * 256 ≡ get_or area t 0 * 256 ^ length area + rest area (suc t)
unfolding rest number
step [] zero = refl
step [] (suc t) = rw (zero-mul (256 ^ suc t), zero-mul (256 ^ suc (suc t)))
step (x ∷ xs) zero =
    omega
    (arith, pow-suc 256 (length xs), ap (λ (i : ℕ). x * i) (pow-suc 256 (length xs)), mul_assoc x (256 ^ length xs) 256)
step (x ∷ xs) (suc t) =
    let h = get_or xs t 0 in
    let d : h * 256 ^ suc (length xs) ≡ h * 256 ^ length xs * 256 =
    ap (λ (i : ℕ). h * i) (pow-suc 256 (length xs)) ∙ sym (mul_assoc h (256 ^ length xs) 256) in
    omega (arith, rest_cons x xs t, rest_cons x xs (suc t), d, step xs t)

-- one byte comes in
pub rest_step : (area : List ℕ) (t : ℕ) → rest area t * 256 ≡ get_or area t 0 * 2 ^ bits area + rest area (t + 1)
rest_step area t = rw (add-one t, ← bytes_bits (length area)) (step area t)

nil : (t : ℕ) → rest [] t < 1
unfolding rest number
nil zero = lit< tt
nil (suc t) = rw (zero-mul (256 ^ suc t)) (lit< tt)

lt : (area : List ℕ) (t : ℕ) → ((i : ℕ) → get_or area i 0 < 256) → rest area t < 256 ^ length area
lt [] t f = nil t
lt (x ∷ xs) zero f = rw (rest_zero (x ∷ xs)) (number_lt (x ∷ xs) f)
lt (x ∷ xs) (suc t) f =
    rw (rest_cons x xs t, pow-suc 256 (length xs)) (mul-lt-mul_of_pos_right (lt xs t (λ i. f (suc i))) (lit< tt))

pub rest_lt : (area : List ℕ) (t : ℕ) → ((i : ℕ) → get_or area i 0 < 256) → rest area t < 2 ^ bits area
rest_lt area t f = rw (← bytes_bits (length area)) (lt area t f)

-- the first bytes as a number v: one more of them
pub more : (area : List ℕ) (v at : ℕ) → v * 2 ^ bits area + rest area at ≡ number area * 256 ^ at
    → (v * 256 + get_or area at 0) * 2 ^ bits area + rest area (at + 1) ≡ number area * 256 ^ (at + 1)
more area v at e =
    let b = 2 ^ bits area in
    let y = get_or area at 0 in
    let p : number area * 256 ^ (at + 1) ≡ number area * 256 ^ at * 256 =
    ap (λ (i : ℕ). number area * i) (ap (λ (i : ℕ). 256 ^ i) (add-one at) ∙ pow-suc 256 at)
    ∙ sym (mul_assoc (number area) (256 ^ at) 256) in
    omega (arith, rest_step area at, add-mul (v * 256) y b, mul_right_comm v 256 b)

-- the first eight bytes as a number, of a list that has them as its own: `more` eight times
eight : (area first : List ℕ) → ((i : ℕ) → get_or area i 0 < 256) → ((i : ℕ) → i < 8 → get_or first i 0 ≡ get_or area i 0)
    → (from_be_bytes w64 first < 256 ^ 8) × (from_be_bytes w64 first * 2 ^ bits area + rest area 8 ≡ number area * 256 ^ 8)
eight area first f same =
    let y : ℕ → ℕ = λ i. get_or area i 0 in
    let v₁ = 0 * 256 + y 0 in
    let v₂ = v₁ * 256 + y 1 in
    let v₃ = v₂ * 256 + y 2 in
    let v₄ = v₃ * 256 + y 3 in
    let v₅ = v₄ * 256 + y 4 in
    let v₆ = v₅ * 256 + y 5 in
    let v₇ = v₆ * 256 + y 6 in
    let v₈ = v₇ * 256 + y 7 in
    let e₀ : 0 * 2 ^ bits area + rest area 0 ≡ number area * 256 ^ 0 = omega (arith, rest_zero area) in
    let e₄ = more area v₃ 3 (more area v₂ 2 (more area v₁ 1 (more area 0 0 e₀))) in
    let e₈ = more area v₇ 7 (more area v₆ 6 (more area v₅ 5 (more area v₄ 4 e₄))) in
    let is : from_be_bytes w64 first ≡ v₈ = omega (
      arith,
      same 0 (lit< tt),
      same 1 (lit< tt),
      same 2 (lit< tt),
      same 3 (lit< tt),
      same 4 (lit< tt),
      same 5 (lit< tt),
      same 6 (lit< tt),
      same 7 (lit< tt),
    ) in
    (omega (arith, is, f 0, f 1, f 2, f 3, f 4, f 5, f 6, f 7), rw is e₈)

-- eight bytes that are read one by one, as the window that an area starts with
module _ (area : List ℕ) {a b c d e f g h : ℕ} (p₀ : a ≡ get_or area 0 0) (p₁ : b ≡ get_or area 1 0) (p₂ : c ≡ get_or area 2 0)
    (p₃ : d ≡ get_or area 3 0) (p₄ : e ≡ get_or area 4 0) (p₅ : f ≡ get_or area 5 0) (p₆ : g ≡ get_or area 6 0)
    (p₇ : h ≡ get_or area 7 0) where
  one_by_one : (i : ℕ) → i < 8 → get_or (a ∷ b ∷ c ∷ d ∷ e ∷ f ∷ g ∷ h ∷ []) i 0 ≡ get_or area i 0
  one_by_one zero l = p₀
  one_by_one (suc zero) l = p₁
  one_by_one (suc (suc zero)) l = p₂
  one_by_one (suc (suc (suc zero))) l = p₃
  one_by_one (suc (suc (suc (suc zero)))) l = p₄
  one_by_one (suc (suc (suc (suc (suc zero))))) l = p₅
  one_by_one (suc (suc (suc (suc (suc (suc zero)))))) l = p₆
  one_by_one (suc (suc (suc (suc (suc (suc (suc zero))))))) l = p₇
  one_by_one (suc (suc (suc (suc (suc (suc (suc (suc i)))))))) l = absurd (omega (arith, l))

  pub started : {v : ℕ} → ((i : ℕ) → get_or area i 0 < 256) → v ≡ from_be_bytes w64 (a ∷ b ∷ c ∷ d ∷ e ∷ f ∷ g ∷ h ∷ [])
      → (v < 256 ^ 8) × (v * 2 ^ bits area + rest area 8 ≡ number area * 256 ^ 8)
  started bytes told = rw told (eight area (a ∷ b ∷ c ∷ d ∷ e ∷ f ∷ g ∷ h ∷ []) bytes one_by_one)

zeros : (k j : ℕ) → get_or {A = ℕ} (replicate k 0) j 0 ≡ 0
zeros zero j = refl
zeros (suc k) zero = refl
zeros (suc k) (suc j) = zeros k j

-- the first n entries of a list, the whole of it where one asks for more, before zeros
padded : (n : ℕ) (l z : List ℕ) (i : ℕ) → n ≤ length l → n ≤ length z → ((j : ℕ) → get_or z j 0 ≡ 0) → (n ≤ i → n ≡ length l)
    → get_or (take n l ++ drop n z) i 0 ≡ get_or l i 0
padded zero [] z i h k f e = f i
padded zero (x ∷ l) z i h k f e = absurd (omega (arith, e (omega arith)))
padded (suc n) [] z i h k f e = absurd (omega (arith, h))
padded (suc n) (x ∷ l) [] i h k f e = absurd (omega (arith, k))
padded (suc n) (x ∷ l) (y ∷ z) zero h k f e = refl
padded (suc n) (x ∷ l) (y ∷ z) (suc i) h k f e =
    padded n l z i (omega (arith, h)) (omega (arith, k)) (λ j. f (suc j)) (λ g. omega (arith, e (omega (arith, g))))

-- the first bytes of an area, or all of them and then zeros, as the window that it starts with
pub starting : (area : List ℕ) {new : List ℕ} {n v : ℕ} → ((i : ℕ) → get_or area i 0 < 256) → n ≡ min (length area) 8 → new ≡ take n area
    → v ≡ from_be_bytes w64 (new ++ drop n (replicate 8 0))
    → (v < 256 ^ 8) × (v * 2 ^ bits area + rest area 8 ≡ number area * 256 ^ 8)
starting area {new} {n} f is same told =
    let eq : (i : ℕ) → i < 8 → get_or (new ++ drop n (replicate 8 0)) i 0 ≡ get_or area i 0 = λ i h.
    rw same (padded n area (replicate 8 0) i (omega (arith, is)) (omega (arith, is)) (zeros 8) (λ g. omega (arith, is, g, h))) in
    rw told (eight area (new ++ drop n (replicate 8 0)) f eq)
