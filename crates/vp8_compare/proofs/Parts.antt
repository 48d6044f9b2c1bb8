-- Where runs differ: a loop over the first one has at its head what is left of it, and the place; two runs one after the other differ
-- where the first does, or else where the second does. By induction on the first run.
use Prim.Native.Nat.{ℕ, suc, ◌+◌, ◌-◌, ◌^◌, ◌<◌}
use native.Mathlib.Omega.{arith}
use native.Mathlib.Nat.{add-zero}
use native.Mathlib.Numerals.{add-one}
use mathlib.Core.Logic.{◌⊎◌, inl, inr}
use mathlib.Core.Path.{◌≡◌, refl, ap, ap₂, sym, ◌∙◌}
use mathlib.Core.Bool.{Bool, true, false, not}
use mathlib.Core.List.{List, [], ◌∷◌, ◌++◌}
use lib.Dec.{eqb, ltb}
use lib.ListN.{length, get_or, drop, drop_of_length-le}
use lib.Seq.{drop-cons, drop-drop}
use borrow.Author.Tests.{true-ltb, false-ltb}
use denote.Bor.{Bor}
use Rattle.std.proofs.Common.{Option, None, Some}
use Rattle.std.specs.Cmp.{IsPartialEquivalence}
use Rattle.std.specs.Option.{option_or, option_eq, is_some, IfSome}
use Rattle.rfc6386.specs.Decoder.{pick}
use Rattle.vp8_compare.specs.Apart.{apart_by, apart}

-- what is left of the first run, from place n of the second on, differs where the whole does
pub record Turn {X : Type 0} (eq : X → X → Bool) (n : ℕ) (xs b : List X) (whole : Option ℕ) : Type 0 where
  pub same : apart_by eq n xs (drop n b) ≡ whole
  pub room : n + length xs < 2 ^ 64

pub begin : {X : Type 0} {eq : X → X → Bool} {n from : ℕ} {xs a : List X} (b : List X) → from + length a < 2 ^ 64 → n ≡ from → xs ≡ a
    → Turn eq n xs b (apart_by eq from a (drop from b))
begin {eq = eq} {xs = xs} b room e f =
    record { same = ap₂ (λ n l. apart_by eq n l (drop n b)) e f; room = omega (arith, e, ap length f) }

-- what a look into the second run tells of an entry of the first
met : {X : Type 0} {eq : X → X → Bool} → IsPartialEquivalence eq → (b : List X) (n : ℕ) (x : Bor X) (xs : List X) (r : Option (Bor X))
    → is_some r ≡ ltb n (length b) → IfSome r (λ y. y.now ≡ get_or b n y.now)
    → apart_by eq n (x.now ∷ xs) (drop n b)
    ≡ pick (option_eq (λ p q. eq p.now q.now) r (Some x)) (apart_by eq (suc n) xs (drop (suc n) b)) (Some n)
unfolding apart_by
met laws b n x xs None e f = rw (drop_of_length-le b (false-ltb n (length b) e))
met laws b n x xs (Some y) e f = rw (drop-cons b n y.now (true-ltb n (length b) e), ← f, laws.symm x.now y.now)

module _ {X : Type 0} {eq : X → X → Bool} (laws : IsPartialEquivalence eq) {b xs ys : List X} {n at next : ℕ} {whole : Option ℕ}
    (x : Bor X) (r : Option (Bor X)) (t : Turn eq n xs b whole) (here : (at ≡ n) × (next ≡ at + 1)) (now : xs ≡ x.now ∷ ys)
    (some : is_some r ≡ ltb at (length b)) (there : IfSome r (λ y. y.now ≡ get_or b at y.now)) where
  look : (e : Bool) → option_eq (λ p q. eq p.now q.now) r (Some x) ≡ e
      → pick e (apart_by eq (suc at) ys (drop (suc at) b)) (Some at) ≡ whole
  look e q = rw (← q) (sym (met laws b at x ys r some there) ∙ rw (now, ← here.0) at t.same)

  -- none, or another one
  pub differs : true ≡ not (option_eq (λ p q. eq p.now q.now) r (Some x)) → Some at ≡ whole
  differs e = go _ refl e
    where
      go : (q : Bool) → option_eq (λ p q. eq p.now q.now) r (Some x) ≡ q → true ≡ not q → Some at ≡ whole
      go true d z = absurd (let w : ◌≡◌ {A = ℕ} 0 1 = cc z in omega arith)
      go false d z = look false d

  pub agrees : false ≡ not (option_eq (λ p q. eq p.now q.now) r (Some x)) → Turn eq next ys b whole
  agrees e = record { same = go _ refl e; room = omega (arith, here.0, here.1, t.room, ap length now) }
    where
      go : (q : Bool) → option_eq (λ p q. eq p.now q.now) r (Some x) ≡ q → false ≡ not q → apart_by eq next ys (drop next b) ≡ whole
      go true d z = rw (here.1, add-one at) (look true d)
      go false d z = absurd (let w : ◌≡◌ {A = ℕ} 0 1 = cc z in omega arith)

-- at the end nothing is left, since no place is as far as the last number
pub none : {X : Type 0} {eq : X → X → Bool} {n : ℕ} {xs b : List X} {whole : Option ℕ}
    → (2 ^ 64 - 1 - n ≡ 0) ⊎ (length xs ≡ 0) → Turn eq n xs b whole → None ≡ whole
unfolding apart_by
none {xs = []} h t = t.same
none {xs = x ∷ xs} (inl h) t = absurd (omega (arith, h, t.room))
none {xs = x ∷ xs} (inr h) t = absurd (omega (arith, h))

first_differs : (n : ℕ) (b : Bool) (p q r : Option ℕ) → option_or p q ≡ r → option_or (pick b p (Some n)) q ≡ pick b r (Some n)
first_differs n true p q r e = e
first_differs n false p q r e = refl

append : (n : ℕ) (xs ys zs : List ℕ) → option_or (apart n xs zs) (apart (n + length xs) ys (drop (length xs) zs)) ≡ apart n (xs ++ ys) zs
unfolding apart_by
append n [] ys zs = rw (add-zero n)
append n (x ∷ xs) ys [] = refl
append n (x ∷ xs) ys (z ∷ zs) =
    let e : n + suc (length xs) ≡ suc n + length xs = omega arith in
    first_differs n (eqb x z) _ _ _ (rw e (append (suc n) xs ys zs))

-- a run at a place of the stored ones, then another
pub then : (from m : ℕ) (xs ys stored : List ℕ) {p q r : Option ℕ} → m ≡ from + length xs
    → p ≡ apart from xs (drop from stored) → q ≡ apart m ys (drop m stored) → r ≡ option_or p q
    → r ≡ apart from (xs ++ ys) (drop from stored)
then from m xs ys stored {q} e f g h =
    h ∙ ap (λ (z : Option ℕ). option_or z q) f
    ∙ ap (option_or (apart from xs (drop from stored))) (g ∙ rw (e, ← drop-drop (length xs) from stored))
    ∙ append from xs ys (drop from stored)
