-- A loop that copies n numbers of a run, from a place on, into an array: what holds at its head, for every n. A turn
-- stores the next number at the end of what agrees.
use Rattle.std.proofs.Common.{◌≡◌, ℕ, ◌+◌, ◌<◌, ◌≤◌, List, [], ◌∷◌, ◌++◌, length, get_or, take, drop, set, sym, refl, ap, ◌∙◌, add-one, arith, length-drop, length-set, get_or-drop, take_all, take-suc, take-suc-set}

pub record Copied (n at : ℕ) (xs v : List ℕ) (i : ℕ) : Type 0 where
  pub count : i ≤ n
  pub size : length v ≡ n
  pub same : take i v ≡ take i (drop at xs)

pub begin : {n at : ℕ} {xs v : List ℕ} → length v ≡ n → Copied n at xs v 0
begin h = record { count = omega arith; size = h; same = refl }

pub turn : {n at : ℕ} {xs v : List ℕ} {i : ℕ} → at + n ≤ length xs → i < n → Copied n at xs v i
    → Copied n at xs (set v i (get_or xs (at + i) 0)) (i + 1)
turn {n} {at} {xs} {v} {i} fits h c =
    let x : ℕ = get_or xs (at + i) 0 in
    let inside : i < length v = rw c.size h in
    let before : i < length (drop at xs) = simp length-drop (omega arith) in
    record {
      count = omega arith;
      size = length-set v i x ∙ c.size;
      same =
          ap (λ (k : ℕ). take k (set v i x)) (add-one i) ∙ take-suc-set v i x inside
          ∙ ap (λ (ys : List ℕ). ys ++ (x ∷ [])) c.same
          ∙ ap (λ (y : ℕ). take i (drop at xs) ++ (y ∷ [])) (sym (get_or-drop at xs i 0))
          ∙ sym (take-suc (drop at xs) i 0 before)
          ∙ ap (λ (k : ℕ). take k (drop at xs)) (sym (add-one i));
    }

pub end : {n at : ℕ} {xs v : List ℕ} {i : ℕ} → n ≤ i → Copied n at xs v i → v ≡ take n (drop at xs)
end {n} {at} {xs} {v} {i} h c =
    let e : i ≡ n = omega (arith, c.count) in
    sym (take_all n v (omega (arith, c.size))) ∙ (rw e at c.same)
