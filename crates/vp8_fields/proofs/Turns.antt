-- A loop over a table's flags: turns whose bools are 0 are passed over, by induction on the zeros, and one whose bool is set writes one
-- number.
use Prim.Native.Nat.{ℕ, ◌+◌, ◌-◌, ◌≤◌, ◌<◌}
use native.Mathlib.Nat.{add-zero, add_assoc}
use native.Mathlib.Omega.{arith}
use mathlib.Core.Path.{◌≡◌, refl, sym, ap, subst}
use mathlib.Core.Bool.{true}
use mathlib.Core.List.{List}
use denote.Ref.{Bor}
use lib.ListN.{length, take, drop, get_or, set, length-drop}
use lib.Seq.{get_or-drop, set-get_or, take_all}
use Rattle.std.specs.Prelude.{Option, Some, None}
use Rattle.rfc6386.specs.Reads.{Rd, bool, lit, make}
use Rattle.rfc6386.specs.Runs.{or}
use Rattle.bool_decoder.specs.Window.{window, Ran}
use Rattle.bool_decoder.specs.Quiet.{Quiet, here, past, Finds, Seeks}
use Rattle.bool_decoder.specs.declared.Window.{Window}
use Rattle.bool_decoder.specs.declared.BoolDecoder.{BoolDecoder}
use Rattle.bool_decoder.proofs.Chain.{then, on, off, upto}
use Rattle.bool_decoder.proofs.Each.{Turn, turn}
use Rattle.bool_decoder.proofs.Made.{kept_or, same}
use Rattle.bool_decoder.proofs.Quiet.{Hit, found, nowhere, over_area}
use Rattle.vp8_fields.specs.Rows.{coded}

-- a turn's read: the number that is coded at the entry i, or the old one
abbrev pub flagged : List ℕ → ℕ → ℕ → Rd ℕ
flagged t i x = make (λ u. or u x) (coded (get_or t i 0))

module _ {area : List ℕ} (t : List ℕ) {d₀ : Window} {xs : List ℕ} where
  -- zeros before the rest from i on
  pub passed : {i : ℕ} {d : Window} {k : ℕ} {e : Window} {now : List ℕ} → Quiet area (drop i t) 0 d k e → i + k ≤ length xs
      → Turn window (flagged t) area 9 d₀ xs now d i → Turn window (flagged t) area 9 d₀ xs now e (i + k)
  passed {i} here h u = rw (add-zero i) u
  passed {i} {now = now} (past {j} {e} {e'} q r) h u =
      let z = get_or now (i + j) 0 in
      let at = rw (get_or-drop i t j 0) at r in
      let k : Ran (flagged t (i + j) z) area e z e' 9 = same (kept_or _ _ _) (upto (omega arith) (then _ at (off _ refl r.over))) in
      rw (← add_assoc i j 1)
      (subst (λ (l : List ℕ). Turn window (flagged t) area 9 d₀ xs l e' (i + j + 1)) (set-get_or now (i + j) 0)
      (turn _ 0 (passed q (omega arith) u) (omega arith) k))

  -- the literal after a bool that is set: its number is set
  pub written : (i n : ℕ) {v : ℕ} {d d₁ d₂ : Window} {now : List ℕ} → i + n < length xs
      → Turn window (flagged t) area 9 d₀ xs now d (i + n) → Ran (bool (get_or (drop i t) n 0)) area d true d₁ 1
      → Ran (lit 8) area d₁ v d₂ 8 → Turn window (flagged t) area 9 d₀ xs (set now (i + n) v) d₂ (i + n + 1)
  written i n within u r l = turn _ 0 u within (same (kept_or _ _ _) (then _ (rw (get_or-drop i t n 0) at r) (on _ refl l)))

-- the rest of a list from n on, as a slice is cut off
whole_rest : (n : ℕ) (l : List ℕ) {k : ℕ} → length l - n ≡ k → drop n l ≡ take k (drop n l)
whole_rest n l {k} e = sym (take_all k (drop n l) (omega (arith, e, length-drop n l)))

-- a search in the table from i on, as a slice of it is cut off, over an area that is the decoder's
module _ {at : Bor (List ℕ)} {t table : List ℕ} {n : ℕ} {d₀ : Window} {xs now : List ℕ} {i : ℕ} {k : Option ℕ} {d e : BoolDecoder}
    (is : table ≡ t) (long : length table ≡ n) (whole : length xs ≡ n) (same : d.area ≡ at)
    (u : Turn window (flagged t) at.now 9 d₀ xs now d.window i) (s : Seeks (take (n - i) (drop i table)) d k e) where
  -- its place, counted from i, is one in the rest of the table
  finds : {m : Option ℕ} → k ≡ m → Finds at.now (drop i t) d.window m e.window
  finds told =
      subst (λ (m : Option ℕ). Finds at.now (drop i t) d.window m e.window) told
      (subst (λ (l : List ℕ). Finds at.now (drop i l) d.window k e.window) is
      (subst (λ (l : List ℕ). Finds at.now l d.window k e.window) (sym (whole_rest i table (ap (λ (m : ℕ). m - i) long)))
      (over_area same s)))

  -- it found the place j
  pub reached : {j : ℕ} → k ≡ Some j
      → (h : Hit at.now (drop i t) d.window j e.window) × (i + j < n) × Turn window (flagged t) at.now 9 d₀ xs now h.from (i + j)
  reached {j} told =
      let h = found (finds told) in
      let within : i + j < n = omega (arith, h.within, length-drop i t, long, ap length is) in
      (h, within, passed t h.quiet (omega (arith, within, whole)) u)

  -- it found none
  pub ended : k ≡ None → Turn window (flagged t) at.now 9 d₀ xs now e.window n
  ended told =
      let all : i + length (drop i t) ≡ n = omega (arith, length-drop i t, long, ap length is, whole, u.count) in
      rw all at (passed t (nowhere (finds told)) (omega (arith, all, whole)) u)
