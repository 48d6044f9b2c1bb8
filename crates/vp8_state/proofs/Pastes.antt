-- Runs put into a buffer one after another, from its beginning on: each put lengthens what the buffer begins with, and a run as long as the
-- buffer is what it holds.
use Prim.Native.Nat.{ℕ, ◌+◌, ◌≤◌}
use native.Mathlib.Omega.{arith}
use mathlib.Core.Path.{◌≡◌, refl, ap, ap₂, sym, ◌∙◌}
use mathlib.Core.List.{List, [], ◌++◌}
use lib.ListN.{length, take, drop, length-append}
use lib.Seq.{paste, length-paste, take_at, take-length, take_all}

pub record Begins (n : ℕ) (xs b : List ℕ) : Type 0 where
  pub size : length b ≡ n
  pub is : take (length xs) b ≡ xs

pub begin : {n : ℕ} {b : List ℕ} → length b ≡ n → Begins n [] b
begin h = record { size = h; is = refl }

pub more : {n : ℕ} {b : List ℕ} (xs s : List ℕ) (at : ℕ) {c : List ℕ} → Begins n xs b → at ≡ length xs → at + length s ≤ n
    → c ≡ paste b at s (length s) → Begins n (xs ++ s) c
more {n} {b} xs s at {c} h e fits p =
    let rest = drop (at + length s) b in
    let is : c ≡ (xs ++ s) ++ rest =
    p
    ∙ ap₂ {C = List ℕ} (λ ys zs. (ys ++ zs) ++ rest) (ap (λ (k : ℕ). take k b) e ∙ h.is) (take-length s) in
    record {
      size = ap length p ∙ length-paste b at s (length s) (omega arith) (omega (arith, h.size)) ∙ h.size;
      is = ap (λ (l : List ℕ). take (length (xs ++ s)) l) is ∙ take_at (xs ++ s) rest (length (xs ++ s)) refl;
    }

pub whole : {n : ℕ} {xs b : List ℕ} → Begins n xs b → length xs ≡ n → b ≡ xs
whole {n} {xs} {b} h e = sym (take_all (length xs) b (omega (arith, h.size))) ∙ h.is

-- heading and sections
pub five : (b h s u v w : List ℕ) → length b ≡ 1148
    → length h ≡ 22 → length s ≡ 25 → length u ≡ 1056 → length v ≡ 38 → length w ≡ 7
    → paste (paste (paste (paste (paste b 0 h (length h)) 22 s (length s)) 47 u (length u)) 1103 v (length v)) 1141 w (length w)
    ≡ h ++ s ++ u ++ v ++ w
five b h s u v w n hn sn un vn wn =
    let two : length (h ++ s) ≡ 47 = length-append h s ∙ omega arith in
    let three : length (h ++ s ++ u) ≡ 1103 = length-append (h ++ s) u ∙ omega arith in
    let four : length (h ++ s ++ u ++ v) ≡ 1141 = length-append (h ++ s ++ u) v ∙ omega arith in
    let all : length (h ++ s ++ u ++ v ++ w) ≡ 1148 = length-append (h ++ s ++ u ++ v) w ∙ omega arith in
    let a = more [] h 0 (begin n) refl (omega arith) refl in
    let b = more h s 22 a (sym hn) (omega arith) refl in
    let c = more (h ++ s) u 47 b (sym two) (omega arith) refl in
    let d = more (h ++ s ++ u) v 1103 c (sym three) (omega arith) refl in
    whole (more (h ++ s ++ u ++ v) w 1141 d (sym four) (omega arith) refl) all
