-- Records of the right shape are a run of numbers laid out, and back from it: one law for an array of k parts of n numbers each, then
-- one line a level.
use Rattle.std.proofs.Common.{◌≡◌, ℕ, zero, suc, ◌+◌, ◌*◌, ◌≤◌, List, [], ◌∷◌, ◌++◌, length, take, drop, sym, refl, ap, ◌∙◌, ap₂, append_assoc, suc-mul, zero-mul, arith, length-append, length-drop, length-take-le, take_at, take-add, drop_at}
use Rattle.vp8_records.specs.Layout.{rows, joined, laid_mv_context, laid_mv, flat_mv_context, flat_mv}
use Rattle.vp8_records.specs.Nested.{laid_tokens, laid_contexts, laid_bands, laid_nested, flat_tokens, flat_contexts, flat_bands, flat_nested, SizedTokens, SizedContexts, SizedBands, SizedNested}
use Rattle.vp8_records.specs.Shape.{Every, Each, SizedMvContext, SizedMv}

-- a part is laid out by the first n numbers of a run, and is back from its own
pub record Laid {A : Type 0} (flat : A → List ℕ) (laid : List ℕ → A) (n : ℕ) (Good : A → Type 0) : Type 0 where
  pub there : (xs : List ℕ) → n ≤ length xs → flat (laid xs) ≡ take n xs
  pub good : (xs : List ℕ) → n ≤ length xs → Good (laid xs)
  pub size : (x : A) → Good x → length (flat x) ≡ n
  pub back : (x : A) → Good x → (rest : List ℕ) → laid (flat x ++ rest) ≡ x

-- the law for k parts: of each of the four by itself, then together for an array in a record
module _ {A : Type 0} (flat : A → List ℕ) (laid : List ℕ → A) (n : ℕ) (Good : A → Type 0) (one : Laid flat laid n Good) where
  there_rows : (k : ℕ) (xs : List ℕ) → k * n ≤ length xs → joined flat (rows k n laid xs) ≡ take (k * n) xs
  unfolding rows joined
  there_rows zero xs h = rw zero-mul
  there_rows (suc k) xs h =
      let e : n + k * n ≡ suc k * n = omega (arith, suc-mul k n) in
      ap₂ {C = List ℕ} (λ a b. a ++ b) (one.there xs (omega (arith, suc-mul k n)))
      (there_rows k (drop n xs) (omega (arith, suc-mul k n, length-drop n xs)))
      ∙ sym (take-add n (k * n) xs) ∙ ap (λ (m : ℕ). take m xs) e

  good_rows : (k : ℕ) (xs : List ℕ) → k * n ≤ length xs → Each k Good (rows k n laid xs)
  unfolding rows
  good_rows zero xs h = (refl, tt)
  good_rows (suc k) xs h =
      let r = good_rows k (drop n xs) (omega (arith, suc-mul k n, length-drop n xs)) in
      (ap suc r.0, (one.good xs (omega (arith, suc-mul k n)), r.1))

  size_rows : (xs : List A) → Every Good xs → length (joined flat xs) ≡ length xs * n
  unfolding joined
  size_rows [] g = sym (zero-mul n)
  size_rows (x ∷ xs) g =
      length-append (flat x) (joined flat xs) ∙ omega (arith, one.size x g.0, size_rows xs g.1, suc-mul (length xs) n)

  back_rows : (xs : List A) → Every Good xs → (rest : List ℕ) → rows (length xs) n laid (joined flat xs ++ rest) ≡ xs
  unfolding rows joined
  back_rows [] g rest = refl
  back_rows (x ∷ xs) g rest =
      ap (λ (ys : List ℕ). laid ys ∷ rows (length xs) n laid (drop n ys)) (append_assoc (flat x) (joined flat xs) rest)
      ∙ ap₂ {C = List A} (λ y ys. y ∷ rows (length xs) n laid ys) (one.back x g.0 (joined flat xs ++ rest))
      (drop_at (flat x) (joined flat xs ++ rest) n (one.size x g.0))
      ∙ ap (λ (ys : List A). x ∷ ys) (back_rows xs g.1 rest)

  in_rows : {B : Type 0} (k : ℕ) (v : B → List A) (wrap : List A → B) → ((xs : List A) → v (wrap xs) ≡ xs) → ((x : B) → wrap (v x) ≡ x)
      → Laid (λ x. joined flat (v x)) (λ xs. wrap (rows k n laid xs)) (k * n) (λ x. Each k Good (v x))
  in_rows {B} k v wrap e d = record {
    there = λ xs h. ap {B = List ℕ} (λ ys. joined flat ys) (e (rows k n laid xs)) ∙ there_rows k xs h;
    good = λ xs h. rw (e (rows k n laid xs)) (good_rows k xs h);
    size = λ x g. size_rows (v x) g.1 ∙ ap (λ (m : ℕ). m * n) g.0;
    back = λ x g rest.
        ap (λ (m : ℕ). wrap (rows m n laid (joined flat (v x) ++ rest))) (sym g.0)
        ∙ ap wrap (back_rows (v x) g.1 rest) ∙ d x;
  }

pub tokens : Laid flat_tokens laid_tokens 11 SizedTokens
tokens = record {
  there = λ xs h. refl;
  good = length-take-le 11;
  size = λ x g. g;
  back = λ x g rest. λ i. record { v = take_at x.v rest 11 g i };
}

pub contexts : Laid flat_contexts laid_contexts 33 SizedContexts
contexts = in_rows _ _ 11 _ tokens 3 (λ r. r.v) (λ xs. record { v = xs }) (λ xs. refl) (λ r. refl)

pub bands : Laid flat_bands laid_bands 264 SizedBands
bands = in_rows _ _ 33 _ contexts 8 (λ r. r.v) (λ xs. record { v = xs }) (λ xs. refl) (λ r. refl)

pub nested : Laid flat_nested laid_nested 1056 SizedNested
nested = in_rows _ _ 264 _ bands 4 (λ r. r.v) (λ xs. record { v = xs }) (λ xs. refl) (λ r. refl)

pub mv_context : Laid flat_mv_context laid_mv_context 19 SizedMvContext
mv_context = record {
  there = λ xs h. refl;
  good = length-take-le 19;
  size = λ x g. g;
  back = λ x g rest. λ i. record { v = take_at x.v rest 19 g i };
}

pub mv : Laid flat_mv laid_mv 38 SizedMv
mv = in_rows _ _ 19 _ mv_context 2 (λ r. r.v) (λ xs. record { v = xs }) (λ xs. refl) (λ r. refl)
