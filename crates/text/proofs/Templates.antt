-- A template byte by byte: a bar puts the next number, or nothing where there is none, and any other byte itself. Each law is the
-- definition's step at what is left of the template and of the numbers.
use Prim.Native.Nat.{ℕ, ◌+◌, ◌≤◌, ◌<◌}
use native.Mathlib.Omega.{arith}
use native.Mathlib.Numerals.{add-one}
use mathlib.Core.Path.{◌≡◌, refl, ap, sym, ◌∙◌}
use mathlib.Core.List.{List, [], ◌∷◌}
use lib.ListN.{length, get_or, drop, drop_of_length-le}
use lib.Seq.{drop-cons}
use borrow.Author.Tests.{ne_eqb}
use Rattle.text.specs.Text.{Text, put, puts}
use Rattle.text.specs.Digits.{decimal_of}
use Rattle.text.specs.Template.{filled}
use Rattle.text.proofs.Puts.{puts_append, puts_cons, puts_nil}

-- one byte: a bar and the number that stands there, a bar without a number, any other byte
bar_number : (t u : Text) (cs ns : List ℕ) (n : ℕ) → 0 < length ns → n ≡ get_or ns 0 0 → u ≡ puts t (decimal_of n)
    → puts u (filled cs (drop 1 ns)) ≡ puts t (filled (124 ∷ cs) ns)
unfolding filled
bar_number t u cs [] n h m e = absurd (omega arith)
bar_number t u cs (x ∷ ns) n h m e = rw (e, m) (sym (puts_append t (decimal_of x) (filled cs ns)))

bar_none : (cs ns : List ℕ) → length ns < 1 → filled cs ns ≡ filled (124 ∷ cs) ns
unfolding filled
bar_none cs [] h = refl
bar_none cs (x ∷ ns) h = absurd (omega arith)

other : (b : ℕ) (cs ns : List ℕ) → (b ≡ 124 → ⊥) → filled (b ∷ cs) ns ≡ b ∷ filled cs ns
unfolding filled
other b cs [] h = rw (ne_eqb b 124 h)
other b cs (n ∷ ns) h = rw (ne_eqb b 124 h)

-- a template of which i bytes are filled, and what they and the rest of it put together
pub record Filling (t : Text) (template : List ℕ) (u : Text) (left : List ℕ) (i : ℕ) : Type 0 where
  pub whole : puts u (filled (drop i template) left) ≡ t

next : (t u v : Text) (ts ns ms : List ℕ) (i : ℕ) → Filling t ts u ns i → i < length ts
    → puts v (filled (drop (i + 1) ts) ms) ≡ puts u (filled (get_or ts i 0 ∷ drop (i + 1) ts) ns) → Filling t ts v ms (i + 1)
next t u v ts ns ms i f h e =
    let left = drop-cons ts i 0 h ∙ ap (λ (k : ℕ). get_or ts i 0 ∷ drop k ts) (sym (add-one i)) in
    record { whole = e ∙ ap (λ (l : List ℕ). puts u (filled l ns)) (sym left) ∙ f.whole }

pub turn_number : {t u v : Text} {ts ns ms : List ℕ} {i n : ℕ} → Filling t ts u ns i → i < length ts → get_or ts i 0 ≡ 124 → 0 < length ns
    → n ≡ get_or ns 0 0 → v ≡ puts u (decimal_of n) → ms ≡ drop 1 ns → Filling t ts v ms (i + 1)
turn_number {t} {u} {v} {ts} {ns} {ms} {i} {n} f h b m e d q =
    next t u v ts ns ms i f h (rw (b, q) (bar_number u v (drop (i + 1) ts) ns n m e d))

pub turn_none : {t u v : Text} {ts ns ms : List ℕ} {i : ℕ} → Filling t ts u ns i → i < length ts → get_or ts i 0 ≡ 124 → length ns < 1
    → v ≡ u → ms ≡ ns → Filling t ts v ms (i + 1)
turn_none {t} {u} {v} {ts} {ns} {ms} {i} f h b m e q =
    next t u v ts ns ms i f h (rw (b, q, e) (ap (puts u) (bar_none (drop (i + 1) ts) ns m)))

pub turn_other : {t u v : Text} {ts ns ms : List ℕ} {i : ℕ} → Filling t ts u ns i → i < length ts → (get_or ts i 0 ≡ 124 → ⊥)
    → v ≡ put u (get_or ts i 0) → ms ≡ ns → Filling t ts v ms (i + 1)
turn_other {t} {u} {v} {ts} {ns} {ms} {i} f h b e q =
    next t u v ts ns ms i f h
    (rw (q, e, other (get_or ts i 0) (drop (i + 1) ts) ns b) (sym (puts_cons u (get_or ts i 0) (filled (drop (i + 1) ts) ns))))

pub end : {t u : Text} {ts ns : List ℕ} {i : ℕ} → Filling t ts u ns i → length ts ≤ i → u ≡ t
unfolding filled
end {t} {u} {ts} {ns} {i} f h = sym (puts_nil u) ∙ rw (drop_of_length-le ts h) at f.whole
