-- The line's loop: at its head the text so far, followed by the line of the reads that are left, is the whole line. A turn takes one read
-- off the definition, and its two pieces off the text by `puts_append`.
use Prim.Native.Nat.{ℕ, ◌+◌, ◌<◌}
use native.Mathlib.Omega.{arith}
use mathlib.Core.Path.{◌≡◌, refl, ap, sym, ◌∙◌}
use mathlib.Core.Bool.{Bool, true, false}
use mathlib.Core.List.{List, [], ◌∷◌, ◌++◌}
use denote.Ref.{Bor}
use lib.Dec.{eqb}
use lib.ListN.{length, get_or}
use borrow.Author.Tests.{ne_eqb}
use Rattle.rfc6386.specs.Decoder.{State, Out, bits}
use Rattle.bool_slow.specs.Asks.{Ask, Value, answered}
use Rattle.bool_decoder.specs.Bare.{Fresh}
use Rattle.text.specs.Text.{Text, put, puts}
use Rattle.text.proofs.Puts.{puts_append, puts_nil, one}
use Rattle.bool_script.specs.Script.{ask_of, Leaves}
use Rattle.bool_script.specs.Line.{read_text, gap_text, end_text, line_from, line_of}

-- a gap before a read but the first
pub gap_after : (t : Text) {u : Text} (n : ℕ) → (n ≡ 0 → ⊥) → u ≡ put t 32 → u ≡ puts t (gap_text (eqb n 0))
gap_after t n h e = rw (ne_eqb n 0 h) (one t _ _ e)

pub gap_first : (t : Text) {u : Text} (n : ℕ) → n ≡ 0 → u ≡ t → u ≡ puts t (gap_text (eqb n 0))
gap_first t n h e = rw h (e ∙ sym (puts_nil t))

-- a gap and a read, in front of what is left
pieces : (t : Text) (a b c : List ℕ) {u v : Text} → u ≡ puts t a → v ≡ puts u b → puts v c ≡ puts t (a ++ (b ++ c))
pieces t a b c {u} p q =
    ap (λ (w : Text). puts w c) (q ∙ ap (λ (w : Text). puts w b) p)
    ∙ sym (puts_append t a (b ++ c) ∙ puts_append (puts t a) b c)

-- a chunk of two bytes, one by one
pair : (read rest : List ℕ) → length read ≡ 2 → read ++ rest ≡ get_or read 0 0 ∷ (get_or read 1 0 ∷ rest)
pair [] rest e = absurd (omega (arith, e))
pair (k ∷ []) rest e = absurd (omega (arith, e))
pair (k ∷ (n ∷ [])) rest e = refl
pair (k ∷ (n ∷ (m ∷ read))) rest e = absurd (omega (arith, e))

-- no whole read is left
last : (area : List ℕ) (b : Bool) (reads : List ℕ) (s : State) → length reads < 2 → line_from area b reads s ≡ end_text (bits area) s
unfolding line_from
last area b [] s h = refl
last area b (k ∷ []) s h = refl
last area b (k ∷ (n ∷ reads)) s h = absurd (omega (arith, h))

module _ {D : Type 0} (area_of : D → Bor (List ℕ)) (state_of : D → State) where
  -- so many reads are told of those from d₀ on, and these are left
  pub record Turn (d₀ : D) (reads : List ℕ) (t₀ : Text) (d : D) (t : Text) (left : List ℕ) (count : ℕ) : Type 0 where
    pub over : area_of d ≡ area_of d₀
    pub same : puts t (line_from (area_of d₀).now (eqb count 0) left (state_of d))
        ≡ puts t₀ (line_from (area_of d₀).now true reads (state_of d₀))

  module _ {d₀ : D} {reads : List ℕ} {t₀ : Text} {d : D} {t : Text} {left : List ℕ} {n : ℕ} (T : Turn d₀ reads t₀ d t left n) where
    pub turn : (read : List ℕ) {rest : List ℕ} {a : Ask} {t₁ t₂ : Text} {d' : D} → left ≡ read ++ rest → length read ≡ 2
        → t₁ ≡ puts t (gap_text (eqb n 0)) → a ≡ ask_of (get_or read 0 0) (get_or read 1 0) → Leaves area_of state_of a d d'
        → t₂ ≡ puts t₁ (read_text (bits (area_of d).now) (answered (area_of d).now a (state_of d)))
        → Turn d₀ reads t₀ d' t₂ rest (n + 1)
    unfolding line_from
    turn read {rest} {a} {t₁} split two gap is s e =
        let area = (area_of d₀).now in
        let o = answered area (ask_of (get_or read 0 0) (get_or read 1 0)) (state_of d) in
        let heard : answered (area_of d).now a (state_of d) ≡ o = λ i. answered (T.over i).now (is i) (state_of d) in
        let later : eqb (n + 1) 0 ≡ false = ne_eqb (n + 1) 0 (λ z. omega arith) in
        record {
          over = s.over ∙ T.over;
          same =
              rw (later, s.state ∙ ap (λ (p : Out Value). p.then) heard)
              (pieces t (gap_text (eqb n 0)) (read_text (bits area) o) (line_from area false rest o.then) gap
              (e ∙ (λ i. puts t₁ (read_text (bits (T.over i).now) (heard i))))
              ∙ sym (ap (λ (xs : List ℕ). puts t (line_from area (eqb n 0) xs (state_of d))) (split ∙ pair read rest two))
              ∙ T.same);
        }

    pub end : length left < 2
        → puts t (end_text (bits (area_of d).now) (state_of d)) ≡ puts t₀ (line_from (area_of d₀).now true reads (state_of d₀))
    end h =
        ap (λ (b : Bor (List ℕ)). puts t (end_text (bits b.now) (state_of d))) T.over
        ∙ sym (ap (puts t) (last (area_of d₀).now (eqb n 0) left (state_of d) h))
        ∙ T.same

  -- the fresh decoder stands for the start
  pub from_fresh : {at : Bor (List ℕ)} {d : D} (reads : List ℕ) → Fresh area_of state_of at d
      → line_from (area_of d).now true reads (state_of d) ≡ line_of at.now reads
  unfolding line_of
  from_fresh reads f = λ i. line_from (f.over i).now true reads (f.state i)
