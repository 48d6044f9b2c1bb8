-- One read: S lies in 1 .. R - 1, R returns to 128 .. 255, one bool is counted, and at most seven doublings. By cases on each doubling.
use Prim.Native.Nat.{ℕ, zero, suc, ◌+◌, ◌-◌, ◌*◌, ◌/◌, ◌^◌, ◌≤◌, ◌<◌}
use native.Mathlib.Nat.{div-lt_iff_lt-mul, mul-lt-mul_of_pos_left, pow-succ', mul_assoc}
use native.Mathlib.Omega.{arith}
use mathlib.Core.Path.{◌≡◌, refl}
use mathlib.Core.Bool.{Bool, true, false}
use lib.Dec.{leb}
use borrow.Author.Tests.{leb-true, leb-false}
use Rattle.rfc6386.specs.Decoder.{State, split, double, normal, chosen, read_bool}
use Rattle.rfc6386.specs.Reads.{Rd, ret, ask, ◌>>=◌}

pub split_within : (r p : ℕ) → 128 ≤ r → p < 256 → (1 ≤ split r p) × (split r p < r)
split_within r p h g =
    let a : (r - 1) * p < (r - 1) * 256 = mul-lt-mul_of_pos_left g (omega arith) in
    let b : (r - 1) * p / 256 < r - 1 = (div-lt_iff_lt-mul {k = 256} {x = (r - 1) * p} {y = r - 1} (omega arith)).1 a in
    (omega arith, omega arith)

-- a property of doubling until R is at least 128: it holds where none is needed, and goes back from after one to before it
by_doublings : (P : ℕ → State → State → Type 0)
    → ((s : State) → P 0 s s)
    → ((k : ℕ) (s : State) → 128 ≤ s.r → P (suc k) s s)
    → ((k l : ℕ) (s t : State) → s.r < 128 → P k (double l s) t → P (suc k) s t)
    → (k l : ℕ) (s : State) → P k s (normal k l s)
unfolding normal
by_doublings P none enough more zero l s = none s
by_doublings P none enough more (suc k) l s = go (leb 128 s.r) refl (by_doublings P none enough more k l (double l s))
  where
    go : (b : Bool) → leb 128 s.r ≡ b → P k (double l s) (normal k l (double l s))
        → P (suc k) s (elim b [ true ↦ s | false ↦ normal k l (double l s) ])
    go true e next = enough k s (leb-true _ _ e)
    go false e next = more k l s _ (leb-false _ _ e) next

pub normal_few : (k l : ℕ) (s : State) → ((normal k l s).c ≤ s.c + k) × ((normal k l s).n ≡ s.n)
unfolding double
normal_few =
    by_doublings (λ k s t. (t.c ≤ s.c + k) × (t.n ≡ s.n)) (λ s. (omega arith, refl)) (λ k s h. (omega arith, refl))
    (λ k l s t h next. (omega (arith, next.0), next.1))

pub normal_within : (k l : ℕ) (s : State) → 128 ≤ s.r * 2 ^ k → s.r < 256 → (128 ≤ (normal k l s).r) × ((normal k l s).r < 256)
unfolding double
normal_within =
    by_doublings (λ k s t. 128 ≤ s.r * 2 ^ k → s.r < 256 → (128 ≤ t.r) × (t.r < 256)) (λ s h g. (omega arith, g)) (λ k s e h g. (e, g))
    (λ k l s t e next h g. next (rw (pow-succ', ← mul_assoc) at h) (omega arith))

-- one bool is counted, and at most seven doublings
pub read_few : (l p : ℕ) (s : State) → ((read_bool l p s).then.c ≤ s.c + 7) × ((read_bool l p s).then.n ≡ s.n + 1)
unfolding read_bool chosen
read_few l p s = go (leb (split s.r p * 2 ^ l) s.v)
  where
    go : (b : Bool)
        → ((normal 7 l (chosen l b (split s.r p) s)).c ≤ s.c + 7) × ((normal 7 l (chosen l b (split s.r p) s)).n ≡ s.n + 1)
    go true = normal_few 7 l _
    go false = normal_few 7 l _

-- R returns to 128 .. 255
pub read_within : (l p : ℕ) (s : State) → 128 ≤ s.r → s.r < 256 → p < 256
    → (128 ≤ (read_bool l p s).then.r) × ((read_bool l p s).then.r < 256)
unfolding read_bool chosen
read_within l p s h g j = go (leb (split s.r p * 2 ^ l) s.v) (split_within s.r p h j)
  where
    go : (b : Bool) → (1 ≤ split s.r p) × (split s.r p < s.r)
        → (128 ≤ (normal 7 l (chosen l b (split s.r p) s)).r) × ((normal 7 l (chosen l b (split s.r p) s)).r < 256)
    go true w = normal_within 7 l _ (omega (arith, w)) (omega (arith, w))
    go false w = normal_within 7 l _ (omega (arith, w)) (omega (arith, w))

-- a tree whose every probability is a byte
abbrev pub Asks : {A : Type 0} → Rd A → Type 0
Asks (ret a) = Unit {0}
Asks (ask p k) = (p < 256) × ((b : Bool) → Asks (k b))

pub asks_bind : {A B : Type 0} (m : Rd A) (f : A → Rd B) → Asks m → ((x : A) → Asks (f x)) → Asks (m >>= f)
unfolding ◌>>=◌
asks_bind (ret a) f h g = g a
asks_bind (ask p k) f h g = (h.0, λ b. asks_bind (k b) f (h.1 b) g)
