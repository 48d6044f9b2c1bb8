-- A block that is taken is that of one record without fault, and every such record has one: from the laws of `Laid` and `NoFault`, by
-- cases on the tests.
use Prim.Native.Nat.{ℕ, zero, suc, ◌+◌, ◌*◌, ◌<◌}
use native.Mathlib.Omega.{arith}
use mathlib.Core.Logic.{◌↔◌}
use mathlib.Core.Path.{◌≡◌, refl, ap, ap₂, sym, ◌∙◌}
use mathlib.Core.Bool.{Bool, true, false, false≢true, true≢false}
use mathlib.Core.List.{List, [], ◌∷◌, ◌++◌, map, append-nil}
use borrow.Author.Tests.{eqb-true, eq-eqb}
use lib.Dec.{eqb, lit<}
use lib.ListN.{length, get_or, take, drop, length-append, length-drop, length-map, take-append-drop}
use lib.Seq.{get_or-drop}
use Rattle.vp8_records.specs.declared.Parser.{Parser}
use Rattle.vp8_records.specs.Layout.{joined}
use Rattle.vp8_records.specs.Shape.{Sized}
use Rattle.vp8_records.proofs.Parts.{mv}
use Rattle.rfc6386.specs.Bytes.{le2}
use Rattle.rfc6386.specs.Frame.{sum}
use Rattle.rfc6386.specs.Decoder.{pick}
use Rattle.rfc6386_history.specs.Sound.{Sound}
use Rattle.vp8_flat.specs.Bytes.{segmentation_bytes, adjustment_bytes, flat_modes, kept_bytes}
use Rattle.vp8_flat.proofs.Whole.{kept_is}
use Rattle.std.proofs.Common.{Ok, Err}
use Rattle.vp8_state.specs.declared.BlockRefusal.TheVariants.{OtherSize, OtherHeading, Fault}
use Rattle.vp8_state.specs.Block.{heading, sections, record_bytes, block, agree, faultless}
use Rattle.vp8_state.specs.Block.{refusal_of, block_verdict, write_verdict, Causes}
use Rattle.vp8_state.specs.Laid.{part}
use Rattle.vp8_state.specs.Handed.{left, record_of, read_block, write_block, state_read, state_write}
use Rattle.vp8_state.proofs.Laid.{Typed, sound_typed, part_is, record_size, record_back, both, Bytes, bytes_back, sound_laid}
use Rattle.vp8_state.proofs.NoFault.{sound_faultless, faultless_sound}

-- what the three tests of a block that is taken say
pub record IsBlock (b : List ℕ) : Type 0 where
  pub size : length b ≡ 1148
  pub head : agree eqb heading b ≡ true
  pub fine : faultless (drop 22 b) ≡ true
  pub rest : length (drop 22 b) ≡ 1126

pub is_block : (b : List ℕ) → block_verdict b ≡ Ok tt → IsBlock b
unfolding block_verdict
is_block b h =
    let t = go (eqb (length b) 1148) (agree eqb heading b) (faultless (drop 22 b)) (ap refusal_of h) in
    let n = eqb-true _ _ t.0 in
    record { size = n; head = t.1; fine = t.2; rest = length-drop 22 b ∙ omega (arith, n) }
  where
    go : (x y z : Bool) → refusal_of (pick x (pick y (pick z (Ok tt) (Err Fault)) (Err OtherHeading)) (Err OtherSize)) ≡ 0
        → (x ≡ true) × (y ≡ true) × (z ≡ true)
    go true true true h = (refl, refl, refl)
    go true true false h = absurd (omega (arith, h))
    go true false z h = absurd (omega (arith, h))
    go false y z h = absurd (omega (arith, h))

-- bytes that agree with a table by equality begin with it
begins : (ks bs : List ℕ) → agree eqb ks bs ≡ true → take (length ks) bs ≡ ks
unfolding agree
begins [] bs h = refl
begins (k ∷ ks) [] h = absurd (false≢true h)
begins (k ∷ ks) (b ∷ bs) h =
    let t = both (eqb k b) (agree eqb ks bs) h in
    ap₂ {C = List ℕ} (λ x xs. x ∷ xs) (sym (eqb-true k b t.0)) (begins ks bs t.1)

-- and those that begin with it agree
agrees : (ks bs : List ℕ) → take (length ks) bs ≡ ks → agree eqb ks bs ≡ true
unfolding agree
agrees [] bs h = refl
agrees (k ∷ ks) [] h = absurd (let z : ◌≡◌ {A = ℕ} 0 1 = cc in omega arith)
agrees (k ∷ ks) (b ∷ bs) h =
    let e : b ≡ k = cc in
    let es : take (length ks) bs ≡ ks = cc in
    rw (eq-eqb k b (sym e)) (agrees ks bs es)

-- the verdict by its tests, of which the first two decide L and H
module _ (L H : Type 0) where
  abbrev Told : Bool → Bool → Bool → ℕ → Type 0
  Told x y z n = refusal_of (pick x (pick y (pick z (Ok tt) (Err Fault)) (Err OtherHeading)) (Err OtherSize)) ≡ n

  told_13 : (x y z : Bool) → ((x ≡ true) ↔ L) → Told x y z 13 ↔ (L → ⊥)
  told_13 false y z l = (λ e h. false≢true (l.1 h), λ n. refl)
  told_13 true true true l = (λ e. absurd (omega (arith, e)), λ n. absurd (n (l.0 refl)))
  told_13 true true false l = (λ e. absurd (omega (arith, e)), λ n. absurd (n (l.0 refl)))
  told_13 true false z l = (λ e. absurd (omega (arith, e)), λ n. absurd (n (l.0 refl)))

  told_14 : (x y z : Bool) → ((x ≡ true) ↔ L) → ((y ≡ true) ↔ H) → Told x y z 14 ↔ (L × (H → ⊥))
  told_14 false y z l k = (λ e. absurd (omega (arith, e)), λ n. absurd (false≢true (l.1 n.0)))
  told_14 true true true l k = (λ e. absurd (omega (arith, e)), λ n. absurd (n.1 (k.0 refl)))
  told_14 true true false l k = (λ e. absurd (omega (arith, e)), λ n. absurd (n.1 (k.0 refl)))
  told_14 true false z l k = (λ e. (l.0 refl, λ h. false≢true (k.1 h)), λ n. refl)

  told_15 : (x y z : Bool) → ((x ≡ true) ↔ L) → ((y ≡ true) ↔ H) → Told x y z 15 ↔ (L × H × (z ≡ false))
  told_15 false y z l k = (λ e. absurd (omega (arith, e)), λ n. absurd (false≢true (l.1 n.0)))
  told_15 true true true l k = (λ e. absurd (omega (arith, e)), λ n. absurd (true≢false n.2))
  told_15 true true false l k = (λ e. (l.0 refl, k.0 refl, refl), λ n. refl)
  told_15 true false z l k = (λ e. absurd (omega (arith, e)), λ n. absurd (false≢true (k.1 n.1)))

  told_0 : (x y z : Bool) → ((x ≡ true) ↔ L) → ((y ≡ true) ↔ H) → Told x y z 0 ↔ (L × H × (z ≡ true))
  told_0 false y z l k = (λ e. absurd (omega (arith, e)), λ n. absurd (false≢true (l.1 n.0)))
  told_0 true true true l k = (λ e. (l.0 refl, k.0 refl, refl), λ n. refl)
  told_0 true true false l k = (λ e. absurd (omega (arith, e)), λ n. absurd (false≢true n.2))
  told_0 true false z l k = (λ e. absurd (omega (arith, e)), λ n. absurd (false≢true (k.1 n.1)))

-- every refusal of a block has its one cause
pub causes : (b : List ℕ) → Causes b
unfolding block_verdict heading
causes b =
    record {
      thirteen = told_13 (length b ≡ 1148) (take 22 b ≡ heading) x y z size;
      fourteen = told_14 (length b ≡ 1148) (take 22 b ≡ heading) x y z size head;
      fifteen = told_15 (length b ≡ 1148) (take 22 b ≡ heading) x y z size head;
      none = told_0 (length b ≡ 1148) (take 22 b ≡ heading) x y z size head;
    }
  where
    x : Bool
    x = eqb (length b) 1148

    y : Bool
    y = agree eqb heading b

    z : Bool
    z = faultless (drop 22 b)

    size : (eqb (length b) 1148 ≡ true) ↔ (length b ≡ 1148)
    size = (λ h. eqb-true (length b) 1148 h, λ h. eq-eqb (length b) 1148 h)

    head : (agree eqb heading b ≡ true) ↔ (take 22 b ≡ heading)
    head = (λ h. begins heading b h, λ h. agrees heading b h)

-- of a block that is taken: its record has no fault, and its block is this one
module _ (b : List ℕ) (bytes : Bytes b) (h : block_verdict b ≡ Ok tt) where
  pub taken_sound : Sound (record_of b)
  taken_sound = let t = is_block b h in sound_laid (drop 22 b) t.rest t.fine

  pub taken_bytes : record_bytes (record_of b) ≡ drop 22 b
  taken_bytes =
      let t = is_block b h in
      bytes_back (drop 22 b) t.rest t.fine (λ i. rw (get_or-drop 22 b i 0) (bytes (22 + i)))

  pub taken_block : block (record_of b) ≡ b
  unfolding block heading
  taken_block = ap₂ {C = List ℕ} (λ xs ys. xs ++ ys) (sym (begins heading b (is_block b h).head)) taken_bytes ∙ take-append-drop 22 b

-- two blocks that are taken and have one record are equal
pub one_block : (b c : List ℕ) → Bytes b → Bytes c → block_verdict b ≡ Ok tt → block_verdict c ≡ Ok tt → record_of b ≡ record_of c → b ≡ c
one_block b c x y h g e = sym (taken_block b x h) ∙ ap block e ∙ taken_block c y g

-- a record without fault has a block, of the right size, which is taken and gives the record back
module _ (p : Parser) (s : Sound p) where
  pub rest_of : drop 22 (block p) ≡ record_bytes p
  unfolding block heading
  rest_of = refl

  pub block_size : length (block p) ≡ 1148
  unfolding block heading
  block_size = length-append heading (record_bytes p) ∙ omega (arith, record_size p s.sized)

  headed : agree eqb heading (block p) ≡ true
  unfolding block heading agree
  headed = refl

  pub block_taken : block_verdict (block p) ≡ Ok tt
  unfolding block_verdict
  block_taken = rw (eq-eqb (length (block p)) 1148 block_size, headed, rest_of, sound_faultless p s)

  pub record_of_lem : record_of (block p) ≡ p
  record_of_lem = rw rest_of (record_back p (sound_typed p s))

  -- reading what was written gives the same record
  pub read_back : read_block (block p) ≡ record { verdict = Ok tt; parser = p }
  unfolding read_block
  read_back = rw (block_taken, record_of_lem)

  pub write_taken : (b : List ℕ) → length b ≡ 1148 → write_block p b ≡ left (Ok tt) (block p)
  unfolding write_block write_verdict
  write_taken b n = rw (eq-eqb (length b) 1148 n, sound_faultless p s)

-- each section lies where the heading says: offset and length of section i stand in the block at 2 + 4i
pub section_at : (p : Parser) → Sized p → (i : ℕ) → i < 5
    → part (le2 (block p) (2 + 4 * i)) (le2 (block p) (4 + 4 * i)) (block p) ≡ get_or (sections p) i []
unfolding block record_bytes heading joined sum
section_at p s i h = go i h
  where
    first : length (segmentation_bytes p.segmentation) ≡ 15
    first = simp (length-append, length-map) (omega (arith, s.quantizers, s.levels, s.probs))

    second : length (adjustment_bytes p.mb_lf_adjust) ≡ 10
    second = simp (length-append, length-map) (omega (arith, s.frames, s.modes))

    last : length (flat_modes p.mode_probs) ≡ 7
    last = length-append p.mode_probs.intra_16x16_prob p.mode_probs.intra_chroma_prob ∙ omega (arith, s.luma, s.chroma)

    all_sizes : map length (heading ∷ sections p) ≡ 22 ∷ 15 ∷ 10 ∷ 1056 ∷ 38 ∷ 7 ∷ []
    all_sizes = λ k. 22 ∷ first k ∷ second k ∷ s.coeffs k ∷ mv.size p.mv_prob s.motion k ∷ last k ∷ []

    go : (j : ℕ) → j < 5 → part (le2 (block p) (2 + 4 * j)) (le2 (block p) (4 + 4 * j)) (block p) ≡ get_or (sections p) j []
    go zero l = part_is 1 (heading ∷ sections p) _ all_sizes (lit< tt)
    go (suc zero) l = part_is 2 (heading ∷ sections p) _ all_sizes (lit< tt)
    go (suc (suc zero)) l = part_is 3 (heading ∷ sections p) _ all_sizes (lit< tt)
    go (suc (suc (suc zero))) l = part_is 4 (heading ∷ sections p) _ all_sizes (lit< tt)
    go (suc (suc (suc (suc zero)))) l = part_is 5 (heading ∷ sections p) _ all_sizes (lit< tt)
    go (suc (suc (suc (suc (suc j))))) l = absurd (omega (arith, l))

-- the flat record is the kept numbers, a byte each
pub kept_bytes_lem : (p : Parser) → record_bytes p ≡ kept_bytes p
unfolding record_bytes joined
kept_bytes_lem p = rw append-nil (kept_is p)

-- two records without fault that have one block are the same
pub one_record : (p q : Parser) → Sound p → Sound q → block p ≡ block q → p ≡ q
one_record p q s t e = sym (record_of_lem p s) ∙ ap record_of e ∙ record_of_lem q t

-- what is written, of a record of the machine, has no fault; so each record that can be written has just one block
pub written_sound : (p : Parser) (b : List ℕ) → Typed p → (write_block p b).answer ≡ Ok tt → Sound p
unfolding write_block write_verdict
written_sound p b t h =
    faultless_sound p t (go (eqb (length b) 1148) (faultless (record_bytes p)) (ap refusal_of h))
  where
    go : (x y : Bool) → refusal_of (pick x (pick y (Ok tt) (Err Fault)) (Err OtherSize)) ≡ 0 → y ≡ true
    go true true h = refl
    go true false h = absurd (omega (arith, h))
    go false y h = absurd (omega (arith, h))

-- the flat record of a block that is taken makes the same block again
pub through_flat : (b o c : List ℕ) → Bytes b → block_verdict b ≡ Ok tt → length o ≡ 1126 → length c ≡ 1148
    → state_write (state_read b o).buffer c ≡ left 0 b
unfolding state_read state_write write_verdict
through_flat b o c bytes h n m =
    let t = is_block b h in
    let s = taken_bytes b bytes h in
    rw (eq-eqb (length o) 1126 n, h, s, eq-eqb (length (drop 22 b)) 1126 t.rest, eq-eqb (length c) 1148 m, t.fine)
    (ap (left 0) (taken_block b bytes h))
