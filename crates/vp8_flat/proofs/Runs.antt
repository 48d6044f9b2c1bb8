-- Runs in a text: a loop that puts a run for each element of an array has put the runs of the first i after i turns, by `puts_append`;
-- and a run as long as the buffer fills it, by `fits`.
use Prim.Native.Nat.{ℕ, ◌+◌, ◌<◌}
use native.Mathlib.Omega.{arith}
use native.Mathlib.Numerals.{add-one}
use mathlib.Core.Path.{◌≡◌, ap, sym, ◌∙◌}
use mathlib.Core.List.{List, [], ◌∷◌, ◌++◌, append_assoc, append-nil, map, map-append}
use lib.ListN.{length, length-replicate, replicate, get_or, take}
use lib.Seq.{take-suc, take_all}
use Rattle.text.specs.Text.{Text, text, put, puts}
use Rattle.text.proofs.Puts.{puts_append, puts_cons, puts_nil, fits, length-puts}
use Rattle.vp8_records.specs.Layout.{joined}

joined_snoc : {A : Type 0} (f : A → List ℕ) (xs : List A) (x : A) → joined f (xs ++ (x ∷ [])) ≡ joined f xs ++ f x
unfolding joined
joined_snoc f [] x = append-nil (f x)
joined_snoc f (y ∷ xs) x = rw (joined_snoc f xs x) (sym (append_assoc (f y) (joined f xs) (f x)))

more : {A : Type 0} (xs : List A) (i : ℕ) (z : A) → i < length xs → take (i + 1) xs ≡ take i xs ++ (get_or xs i z ∷ [])
more xs i z h = ap (λ (k : ℕ). take k xs) (add-one i) ∙ take-suc xs i z h

-- a turn of a loop that puts a byte for each element
pub turn : {A : Type 0} (f : A → ℕ) (t u v : Text) (xs : List A) (i : ℕ) (z : A) → i < length xs → u ≡ puts t (map f (take i xs))
    → v ≡ put u (f (get_or xs i z)) → v ≡ puts t (map f (take (i + 1) xs))
turn f t u v xs i z h e d =
    rw (more xs i z h, map-append f (take i xs) (get_or xs i z ∷ []), puts_append t (map f (take i xs)) (f (get_or xs i z) ∷ []), ← e)
    (d ∙ sym (puts_cons u (f (get_or xs i z)) [] ∙ puts_nil (put u (f (get_or xs i z)))))

-- a turn of a loop that puts a run for each, and its begin
pub joined_nil : {A : Type 0} (f : A → List ℕ) (t : Text) → t ≡ puts t (joined f [])
unfolding joined
joined_nil f t = sym (puts_nil t)

pub joined_turn : {A : Type 0} (f : A → List ℕ) (t u v : Text) (xs : List A) (i : ℕ) (z : A) → i < length xs
    → u ≡ puts t (joined f (take i xs)) → v ≡ puts u (f (get_or xs i z)) → v ≡ puts t (joined f (take (i + 1) xs))
joined_turn f t u v xs i z h e d =
    rw (more xs i z h, joined_snoc f (take i xs) (get_or xs i z), puts_append t (joined f (take i xs)) (f (get_or xs i z)), ← e) d

-- a run as long as the buffer is what the buffer holds
pub full : (t u : Text) (n : ℕ) (xs : List ℕ) → t ≡ text (replicate n 0) 0 → u ≡ puts t xs → length xs ≡ n → u.buffer ≡ xs
full t u n xs e d h =
    let none : length (replicate {A = ℕ} n 0) ≡ n = length-replicate {A = ℕ} n 0 in
    let same : u ≡ puts (text (replicate n 0) 0) xs = d ∙ ap (λ (w : Text). puts w xs) e in
    let size : length u.buffer ≡ n = ap (λ (w : Text). length w.buffer) same ∙ length-puts (text (replicate n 0) 0) xs ∙ none in
    let all = fits (replicate n 0) 0 xs (omega arith) in
    sym (take_all (0 + length xs) u.buffer (omega arith)) ∙ ap (λ (w : Text). take (0 + length xs) w.buffer) same ∙ all.0
