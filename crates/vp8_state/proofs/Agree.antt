-- A test of each entry of a table with the byte at its place: of equality it is the library's `starts_with`; of any test a loop over both,
-- and what holds at its head.
use Prim.Native.Nat.{ℕ, ◌≤◌}
use native.Mathlib.Omega.{arith}
use mathlib.Core.Logic.{◌⊎◌, inl, inr}
use mathlib.Core.Path.{◌≡◌, refl, ap, ap₂, sym, ◌∙◌}
use mathlib.Core.Bool.{Bool, true, false, ◌&&◌}
use mathlib.Core.List.{List, [], ◌∷◌}
use lib.Dec.{eqb}
use lib.ListN.{length}
use Rattle.std.specs.List.{starts_with}
use Rattle.vp8_state.specs.Block.{agree}

pub starts : (xs ys : List ℕ) → starts_with eqb ys xs ≡ agree eqb xs ys
unfolding agree
starts [] ys = refl
starts (x ∷ xs) [] = refl
starts (x ∷ xs) (y ∷ ys) = ap (λ (b : Bool). eqb x y && b) (starts xs ys)

-- the tests that are left give what all of them give
pub record Agreed {K : Type 0} (t : K → ℕ → Bool) (ks : List K) (bs : List ℕ) (whole : Bool) : Type 0 where
  pub enough : length ks ≤ length bs
  pub rest : agree t ks bs ≡ whole

pub begin : {K : Type 0} {t : K → ℕ → Bool} {ks table : List K} {bs bytes : List ℕ} → ks ≡ table → bs ≡ bytes → length table ≤ length bytes
    → Agreed t ks bs (agree t table bytes)
begin {t = t} e f h = record { enough = omega (arith, ap length e, ap length f, h); rest = ap₂ (agree t) e f }

module _
    {K : Type 0} {t : K → ℕ → Bool} {ks ls : List K} {bs cs : List ℕ} {whole : Bool} {k : K} {b : ℕ}
    (a : Agreed t ks bs whole) (here : ks ≡ k ∷ ls) (there : bs ≡ b ∷ cs) where
  next : t k b && agree t ls cs ≡ whole
  unfolding agree
  next = sym (ap₂ (agree t) here there) ∙ a.rest

  pub turn : t k b ≡ true → Agreed t ls cs whole
  turn h = record { enough = omega (arith, a.enough, ap length here, ap length there); rest = rw h at next }

  pub fails : t k b ≡ false → false ≡ whole
  fails h = rw h at next

pub ends : {K : Type 0} {t : K → ℕ → Bool} {ks : List K} {bs : List ℕ} {whole : Bool} → (length ks ≡ 0) ⊎ (length bs ≡ 0)
    → Agreed t ks bs whole → true ≡ whole
unfolding agree
ends {ks = []} h a = a.rest
ends {ks = k ∷ ks} (inl h) a = absurd (omega (arith, h))
ends {ks = k ∷ ks} (inr h) a = absurd (omega (arith, h, a.enough))
