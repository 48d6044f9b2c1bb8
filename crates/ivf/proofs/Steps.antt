-- What stands at a place, test by test; and a walk, record by record.
use Prim.Native.Nat.{ℕ, zero, suc, ◌+◌, ◌-◌, ◌≤◌, ◌<◌}
use native.Mathlib.Omega.{arith}
use native.Mathlib.Decide.{dec_le}
use mathlib.Core.Path.{◌≡◌, refl, ◌∙◌}
use mathlib.Core.Bool.{Bool, true, false}
use mathlib.Core.List.{List}
use borrow.Author.Tests.{ltb-false, lt-ltb, le-ltb, eq-eqb, ne_eqb}
use lib.Dec.{ltb}
use lib.ListN.{length}
use Rattle.std.proofs.Common.{Some, None, Ok, Err}
use Rattle.rfc6386.specs.Bytes.{le4}
use Rattle.ivf.specs.declared.WalkRefusal.{WalkRefusal}
use Rattle.ivf.specs.declared.WalkRefusal.TheVariants.{CutShort, ListFull}
use Rattle.ivf.specs.Ivf.{headed}
use Rattle.ivf.specs.Walk.{step_at, ends, first, walk_from}

module _ (f : List ℕ) (at : ℕ) where
  pub at_end : length f - at ≡ 0 → Ok None ≡ step_at f at
  unfolding step_at
  at_end e = rw (eq-eqb _ _ e)

  pub no_size : (length f - at ≡ 0 → ⊥) → length f - at < 12 → Err CutShort ≡ step_at f at
  unfolding step_at
  no_size e h = rw (ne_eqb _ _ e, lt-ltb _ _ h)

  pub no_bytes : (length f - at ≡ 0 → ⊥) → 12 ≤ length f - at → length f - at - 12 < le4 f at → Err CutShort ≡ step_at f at
  unfolding step_at
  no_bytes e h g = rw (ne_eqb _ _ e, le-ltb _ _ h, lt-ltb _ _ g)

  pub a_frame : (length f - at ≡ 0 → ⊥) → 12 ≤ length f - at → le4 f at ≤ length f - at - 12 → Ok (Some (le4 f at)) ≡ step_at f at
  unfolding step_at
  a_frame e h g = rw (ne_eqb _ _ e, le-ltb _ _ h, le-ltb _ _ g)

  -- so it is one of three
  cases : {A : Type 0} → (length f - at ≡ 0 → Ok None ≡ step_at f at → A) → (1 ≤ length f - at → Err CutShort ≡ step_at f at → A)
      → (12 + le4 f at ≤ length f - at → Ok (Some (le4 f at)) ≡ step_at f at → A) → A
  cases {A} done cut frame = some_left (dec_le 1 (length f - at))
    where
      whole : 12 ≤ length f - at → Dec (le4 f at ≤ length f - at - 12) → A
      whole g (yes d) = frame (omega (arith, g, d)) (a_frame (λ z. omega (arith, g, z)) g d)
      whole g (no d) = cut (omega (arith, g)) (no_bytes (λ z. omega (arith, g, z)) g (omega (arith, d)))

      sized : 1 ≤ length f - at → Dec (12 ≤ length f - at) → A
      sized l (yes d) = whole d (dec_le (le4 f at) (length f - at - 12))
      sized l (no d) = cut l (no_size (λ z. omega (arith, l, z)) (omega (arith, d)))

      some_left : Dec (1 ≤ length f - at) → A
      some_left (yes d) = sized d (dec_le 12 (length f - at))
      some_left (no d) = done (omega (arith, d)) (at_end (omega (arith, d)))

  -- a record that is not cut short ends within the file, and its size is what its first bytes say
  pub fits : {n : ℕ} → at ≤ length f → step_at f at ≡ Ok (Some n) → (at + 12 + n ≤ length f) × (le4 f at ≡ n)
  fits {n} h e =
      cases (λ l d. absurd (let z : ◌≡◌ {A = ℕ} 0 1 = cc (d ∙ e) in omega arith))
      (λ l d. absurd (let z : ◌≡◌ {A = ℕ} 0 1 = cc (d ∙ e) in omega arith))
      (λ l d. let s : le4 f at ≡ n = cc (d ∙ e) in (omega (arith, h, l, s), s))

  -- nothing is left at the end, and something in a record that is cut short
  pub done_left : step_at f at ≡ Ok None → length f - at ≡ 0
  done_left e =
      cases (λ l d. l) (λ l d. absurd (let z : ◌≡◌ {A = ℕ} 0 1 = cc (d ∙ e) in omega arith))
      (λ l d. absurd (let z : ◌≡◌ {A = ℕ} 0 1 = cc (d ∙ e) in omega arith))

  pub cut_left : {r : WalkRefusal} → step_at f at ≡ Err r → (1 ≤ length f - at) × (r ≡ CutShort)
  cut_left {r} e =
      cases (λ l d. absurd (let z : ◌≡◌ {A = ℕ} 0 1 = cc (d ∙ e) in omega arith)) (λ l d. let s : r ≡ CutShort = cc (d ∙ e) in (l, s))
      (λ l d. absurd (let z : ◌≡◌ {A = ℕ} 0 1 = cc (d ∙ e) in omega arith))

  pub walk_done : (k : ℕ) → step_at f at ≡ Ok None → walk_from k f at ≡ ends (Ok tt)
  unfolding walk_from
  walk_done zero e = rw e
  walk_done (suc k) e = rw e

  pub walk_cut : {r : WalkRefusal} (k : ℕ) → step_at f at ≡ Err r → walk_from k f at ≡ ends (Err r)
  unfolding walk_from
  walk_cut zero e = rw e
  walk_cut (suc k) e = rw e

  pub walk_full : {n : ℕ} → step_at f at ≡ Ok (Some n) → walk_from 0 f at ≡ ends (Err ListFull)
  unfolding walk_from
  walk_full e = rw e

  pub walk_frame : {n : ℕ} (k : ℕ) → step_at f at ≡ Ok (Some n) → walk_from (suc k) f at ≡ first (at + 12) n (walk_from k f (at + 12 + n))
  unfolding walk_from
  walk_frame k e = rw e

-- a header is 32 bytes
pub headed_long : (f : List ℕ) → headed f ≡ true → 32 ≤ length f
unfolding headed
headed_long f e = go (ltb (length f) 32) refl
  where
    go : (b : Bool) → ltb (length f) 32 ≡ b → 32 ≤ length f
    go false h = ltb-false _ _ h
    go true h = absurd (let z : ◌≡◌ {A = ℕ} 0 1 = cc (rw h at e) in omega arith)
