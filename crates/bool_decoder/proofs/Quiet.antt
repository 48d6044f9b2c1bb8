-- Laws of zeros in a row: what they leave, two stretches joined, a step that the limit tells, and that one answer of a search is right. By
-- induction on the stretch.
use Prim.Native.Nat.{ℕ, zero, suc, ◌+◌, ◌-◌, ◌*◌, ◌/◌, ◌≤◌, ◌<◌}
use native.Mathlib.Numerals.{add-one}
use native.Mathlib.Omega.{arith}
use mathlib.Core.Path.{◌≡◌, refl, sym, ap, subst}
use mathlib.Core.Bool.{true, false, not}
use mathlib.Core.List.{List}
use denote.Ref.{Bor}
use lib.ListN.{length, take, get_or, length-take}
use Rattle.std.specs.Prelude.{Option, Some, None}
use Rattle.rfc6386.specs.Decoder.{split}
use Rattle.rfc6386.specs.Reads.{Rd, ret, ◌>>=◌, bool, when}
use Rattle.bool_decoder.specs.Window.{Over, Good, Ran}
use Rattle.bool_decoder.specs.Quiet.{narrowed, ReadsAhead, Ahead, Quiet, here, past, Finds, hit, miss, Seeks}
use Rattle.bool_decoder.specs.declared.Window.{Window}
use Rattle.bool_decoder.specs.declared.BoolDecoder.{BoolDecoder}
use Rattle.bool_decoder.proofs.Chain.{then, done, on, off, fewer}
use Rattle.bool_decoder.proofs.Steps.{good}
use Rattle.bool_decoder.proofs.Over.{chosen_zero, limit_is, as_it_is}

-- what a decoder may read its window may
pub ahead : {t : List ℕ} {i : ℕ} (d : BoolDecoder) → ReadsAhead t i d → Ahead d.area.now t i d.window
ahead d a = record { order = a.order; good = good d a.room }

module _ {area t : List ℕ} {i : ℕ} {d : Window} where
  pub rises : {j : ℕ} {e : Window} → Quiet area t i d j e → i ≤ j
  rises here = omega arith
  rises (past q r) = omega (arith, rises q)

  pub over_of : {j : ℕ} {e : Window} → Over area d → Quiet area t i d j e → Over area e
  over_of o here = o
  over_of o (past q r) = r.over

  few : {j : ℕ} {e : Window} → Quiet area t i d j e → e.bools + i ≤ d.bools + j
  few here = omega arith
  few (past q r) = omega (arith, few q, r.most)

  -- what is left may be read
  pub onward : {j : ℕ} {e : Window} → j ≤ length t → Ahead area t i d → Quiet area t i d j e → Ahead area t j e
  onward h g q = record {
    order = h;
    good = record { over = over_of g.good.over q; room = omega (arith, few q, rises q, g.good.room) };
  }

  pub join : {j : ℕ} {e : Window} {k : ℕ} {f : Window} → Quiet area t i d j e → Quiet area t j e k f → Quiet area t i d k f
  join p here = p
  join p (past q r) = past (join p q) r

module _ {t : List ℕ} {i : ℕ} {d e : BoolDecoder} {j : ℕ} (q : Quiet d.area.now t i d.window j e.window) where
  -- after zeros a decoder may read what is left
  pub left : j ≤ length t → ReadsAhead t i d → ReadsAhead t j e
  left h a = record { order = h; room = (onward h (ahead d a) q).good.room }

-- a search is one over an area that is the decoder's
pub over_area : {t : List ℕ} {k : Option ℕ} {d e : BoolDecoder} {at : Bor (List ℕ)} → d.area ≡ at → Seeks t d k e
    → Finds at.now t d.window k e.window
over_area {t} {k} {d} {e} same s = subst (λ (at : Bor (List ℕ)). Finds at.now t d.window k e.window) same s.finds

-- zeros that follow over the same area are joined
pub join_over : {t : List ℕ} {at to : Bor (List ℕ)} {i j k : ℕ} {d e f : Window} → to ≡ at → Quiet at.now t i d j e → Quiet to.now t j e k f
    → Quiet at.now t i d k f
join_over {t} {j = j} {k = k} {e = e} {f = f} same q r = join q (subst (λ (at : Bor (List ℕ)). Quiet at.now t j e k f) same r)

module _ {area : List ℕ} (d : Window) where
  -- a 0 that the limit tells
  told : (low n p next : ℕ) → Good area (narrowed d low n) 1 → next ≡ low * p / 256 → next * 256 ≤ low * 255
      → d.limit ≤ next + 1 → Ran (bool p) area (narrowed d low n) false (narrowed d next (n + 1)) 1
  told low n p next g is falls tells =
      let back : low + 1 - 1 ≡ low = omega arith in
      let s : next + 1 ≡ split (low + 1) p = omega (arith, ap (λ (m : ℕ). m * p / 256) (sym back)) in
      let lt : next + 1 < low + 1 = omega (arith, g.over.low) in
      let q = limit_is g.over p s lt tells in
      let all : d.bools + n + 1 ≡ d.bools + (n + 1) = omega arith in
      rw all at (as_it_is g (chosen_zero g.over p s lt refl q.1) q.0 g.over.limit)

  -- at first none is passed
  pub starts : {t : List ℕ} {i : ℕ} → 128 ≤ d.range → Quiet area t i d i (narrowed d (d.range - 1) (i - i))
  starts {t} {i} low =
      let r : d.range ≡ d.range - 1 + 1 = omega arith in
      let b : d.bools ≡ d.bools + (i - i) = omega arith in
      subst (Quiet area t i d i)
      (λ k. record { range = r k; limit = d.limit; value = d.value; doublings = d.doublings; bools = b k }) here

  -- then a 0 that the limit tells, at the entry j
  pub goes : {t : List ℕ} {i j : ℕ} (j' low next : ℕ) → Ahead area t i d → j < length t → j' ≡ j + 1
      → Quiet area t i d j (narrowed d low (j - i)) → next ≡ low * get_or t j 0 / 256 → next * 256 ≤ low * 255 → d.limit ≤ next + 1
      → Quiet area t i d j' (narrowed d next (j' - i))
  goes {t} {i} {j} j' low next g lt e q is falls tells =
      let one : Good area (narrowed d low (j - i)) 1 = fewer (omega arith) (onward (omega arith) g q).good in
      let more : j + 1 - i ≡ j - i + 1 = omega (arith, rises q) in
      rw (e, more) (past q (told low (j - i) (get_or t j 0) next one is falls tells))

-- the search as a tree: n entries from i on
unfoldable pub sought : List ℕ → ℕ → ℕ → Rd (Option ℕ)
sought t i zero = ret None
sought t i (suc n) = bool (get_or t i 0) >>= (λ b. when (not b) (sought t (suc i) n) (Some i))

module _ {area t : List ℕ} {d : Window} where
  -- zeros lead on to what is sought after them
  leads : {i j : ℕ} {e : Window} → Quiet area t i d j e → (m n : ℕ) → j + m ≡ i + n → {k : Option ℕ} {b : ℕ} {f : Window}
      → Ran (sought t j m) area e k f b → (c : ℕ) × Ran (sought t i n) area d k f c
  unfolding sought
  leads here m n s {b = b} r = let same : m ≡ n = omega arith in (b, rw same at r)
  leads (past {j} q z) m n s r = leads q (suc m) n (omega arith) (then _ z (on _ refl (rw (add-one j) at r)))

  -- a search is the tree's
  pub finds_is : {k : Option ℕ} {e : Window} → Over area d → Finds area t d k e → (c : ℕ) × Ran (sought t 0 (length t)) area d k e c
  unfolding sought
  finds_is o (hit {j} lt q r) = leads q (suc (length t - j - 1)) (length t) (omega (arith, lt)) (then _ r (off _ refl r.over))
  finds_is o (miss q) = leads q 0 (length t) (omega arith) (done (over_of o q))

-- a search that found the place j
pub record Hit (area t : List ℕ) (d : Window) (j : ℕ) (e : Window) : Type 0 where
  pub within : j < length t
  pub from : Window
  pub quiet : Quiet area t 0 d j from
  pub set : Ran (bool (get_or t j 0)) area from true e 1

module _ {area t : List ℕ} {d : Window} where
  pub found : {j : ℕ} {e : Window} → Finds area t d (Some j) e → Hit area t d j e
  found (hit {e = e} lt q r) = record { within = lt; from = e; quiet = q; set = r }

  pub nowhere : {e : Window} → Finds area t d None e → Quiet area t 0 d (length t) e
  nowhere (miss q) = q

-- a place that is found in a part of at most k entries
pub place : {k j : ℕ} (l : List ℕ) {m : Option ℕ} {d e : BoolDecoder} → Seeks (take k l) d m e → m ≡ Some j → j < k
place {k} {j} l {m} {d} {e} s is =
    let h = found (subst (λ (m : Option ℕ). Finds d.area.now (take k l) d.window m e.window) is s.finds) in
    omega (arith, h.within, length-take k l)
