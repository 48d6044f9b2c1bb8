-- A loop that reads each element of a list anew: what holds at its head, once for every element type, read and length. A turn adds one
-- element at the end of the tree that is done.
use Prim.Native.Nat.{ℕ, suc, ◌+◌, ◌*◌, ◌≤◌, ◌<◌}
use native.Mathlib.Omega.{arith}
use native.Mathlib.Nat.{add-zero, zero-add, add-suc, suc-add, mul-zero, mul-suc, mul-le-mul_left}
use native.Mathlib.Numerals.{add-one}
use mathlib.Core.Path.{◌≡◌, refl, ap, sym, ◌∙◌, subst}
use mathlib.Core.List.{List, [], ◌∷◌, ◌++◌}
use lib.ListN.{length, get_or, set, take, drop, length-set}
use lib.Seq.{take-suc, take-suc-set, drop-set-lt, drop-drop, get_or-drop, take_all, length-take-le}
use Rattle.rfc6386.specs.Reads.{Rd, ret, ◌>>=◌}
use Rattle.rfc6386.proofs.Trees.{assoc}
use Rattle.bool_decoder.specs.InPlace.{each_at}
use Rattle.bool_decoder.specs.Engine.{Engine, Ran}
use Rattle.bool_decoder.specs.Model as D
use Rattle.bool_decoder.specs.Model.{over, Room}
use Rattle.bool_decoder.specs.declared.BoolDecoder.{BoolDecoder}
use Rattle.bool_decoder.proofs.Chain.{then, done}
use Rattle.bool_decoder.proofs.Steps.{moved}

module _ {A : Type 0} (f : ℕ → A → Rd A) where
  -- one element more at the end
  snoc : (i : ℕ) (xs : List A) (x : A)
      → each_at f i (xs ++ (x ∷ [])) ≡ each_at f i xs >>= (λ ys. f (i + length xs) x >>= (λ y. ret (ys ++ (y ∷ []))))
  unfolding each_at ◌>>=◌
  snoc i [] x = ap (λ (n : ℕ). f n x >>= (λ y. ret (y ∷ []))) (sym (add-zero i))
  snoc i (a ∷ xs) x = simp (snoc (suc i) xs x, assoc, add-suc, suc-add)

-- at the head of the loop: i elements are done, with at most k bools each
pub record Turn (E : Engine) {A : Type 0} (f : ℕ → A → Rd A) (area : List ℕ) (k : ℕ) (d₀ : E.Dec) (xs now : List A) (d : E.Dec) (i : ℕ)
    : Type 0 where
  pub count : i ≤ length xs
  pub same : length now ≡ length xs
  pub rest : drop i now ≡ drop i xs
  pub ran : Ran E (each_at f 0 (take i xs)) area d₀ (take i now) d (k * i)

module _ {E : Engine} {A : Type 0} (f : ℕ → A → Rd A) where
  pub begin : {area : List ℕ} {k : ℕ} {d₀ : E.Dec} {xs : List A} → E.Over area d₀ → Turn E f area k d₀ xs xs d₀ 0
  unfolding each_at
  begin {k} {xs} o = record { count = omega arith; same = refl; rest = refl; ran = rw (mul-zero k) (done o) }

  pub turn : (z : A) {area : List ℕ} {k : ℕ} {d₀ : E.Dec} {xs now : List A} {d : E.Dec} {i : ℕ} {y : A} {d' : E.Dec}
      → Turn E f area k d₀ xs now d i → i < length xs → Ran E (f i (get_or now i z)) area d y d' k
      → Turn E f area k d₀ xs (set now i y) d' (i + 1)
  turn z {area} {k} {d₀} {xs} {now} {d} {i} {y} {d'} t h q =
      let x : A = get_or xs i z in
      let old : get_or now i z ≡ x =
      ap (λ (n : ℕ). get_or now n z) (sym (add-zero i)) ∙ sym (get_or-drop i now 0 z)
      ∙ ap (λ (l : List A). get_or l 0 z) t.rest
      ∙ get_or-drop i xs 0 z
      ∙ ap (λ (n : ℕ). get_or xs n z) (add-zero i) in
      let n : 0 + length (take i xs) ≡ i = zero-add (length (take i xs)) ∙ length-take-le i xs (omega arith) in
      let r : Ran E (f (0 + length (take i xs)) x) area d y d' k = rw n (rw old at q) in
      let a : take (i + 1) xs ≡ take i xs ++ (x ∷ []) = ap (λ (n : ℕ). take n xs) (add-one i) ∙ take-suc xs i z h in
      let b : take (i + 1) (set now i y) ≡ take i now ++ (y ∷ []) =
      ap (λ (n : ℕ). take n (set now i y)) (add-one i) ∙ take-suc-set now i y (rw t.same h) in
      let m : k * i + (k + 0) ≡ k * (i + 1) = rw (add-one i, mul-suc k i, add-zero k) in
      record {
        count = omega arith;
        same = length-set now i y ∙ t.same;
        rest =
            drop-set-lt (i + 1) now i y (omega arith) ∙ sym (drop-drop 1 i now) ∙ ap (drop 1) t.rest ∙ drop-drop 1 i xs;
        ran = rw (a, b, ← m, snoc f 0 (take i xs) x) (then _ t.ran (then _ r (done q.over)));
      }

  pub end : {area : List ℕ} {k : ℕ} {d₀ : E.Dec} {xs now : List A} {d : E.Dec} {i n : ℕ}
      → Turn E f area k d₀ xs now d i → length xs ≡ n → n ≤ i → Ran E (each_at f 0 xs) area d₀ now d (k * n)
  end {area} {k} {d₀} {xs} {now} {d} {i} {n} t m h =
      let e : i ≡ n = omega (arith, t.count, m) in
      let p : take i xs ≡ xs = take_all i xs (rw m h) in
      let q : take i now ≡ now = take_all i now (rw (t.same, m) h) in
      subst (λ (n : ℕ). Ran E (each_at f 0 xs) area d₀ now d (k * n)) e
      (subst (λ (ys : List A). Ran E (each_at f 0 xs) area d₀ ys d (k * i)) q
      (subst (λ (ys : List A). Ran E (each_at f 0 ys) area d₀ (take i now) d (k * i)) p t.ran))

-- the same of decoders, each over its own area
abbrev pub Turns : {A : Type 0} → (ℕ → A → Rd A) → ℕ → BoolDecoder → List A → List A → BoolDecoder → ℕ → Type 0
Turns f k d₀ xs now d i = Turn (over d₀.area) f d₀.area.now k d₀ xs now d i

module _ {A : Type 0} (f : ℕ → A → Rd A) where
  -- a turn's bools are counted in the loop's own room
  pub room : {k : ℕ} {d₀ : BoolDecoder} {xs now : List A} {d : BoolDecoder} {i n : ℕ}
      → Turns f k d₀ xs now d i → i < n → Room d₀ (k * n) → Room d k
  room {k} {i = i} {n = n} t h g = omega (arith, t.ran.most, g, mul-suc k i, mul-le-mul_left k h)

  pub next : (z : A) {k : ℕ} {d₀ : BoolDecoder} {xs now : List A} {d : BoolDecoder} {i : ℕ} {y : A} {d' : BoolDecoder}
      → Turns f k d₀ xs now d i → i < length xs → D.Ran (f i (get_or now i z)) d y d' k → Turns f k d₀ xs (set now i y) d' (i + 1)
  next z t h q = turn f z t h (moved t.ran.over q)
