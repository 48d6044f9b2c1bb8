-- Writing and reading out of their tests and stores: what is tested of a record is its first 25 bytes, and what is stored its block, or its
-- bytes.
use Prim.Native.Nat.{ℕ, ◌≤◌}
use native.Mathlib.Omega.{arith}
use native.Mathlib.Nat.{le_of_suc-le-suc}
use mathlib.Core.Path.{◌≡◌, refl, ap, sym, ◌∙◌}
use mathlib.Core.Bool.{Bool, true, false, ◌&&◌}
use mathlib.Core.List.{List, [], ◌∷◌, ◌++◌, append_assoc, append-nil}
use borrow.Author.Tests.{eq-eqb, ne_eqb}
use lib.Dec.{eqb}
use lib.ListN.{length, drop, length-append}
use lib.Seq.{paste}
use Rattle.vp8_records.specs.declared.Parser.{Parser}
use Rattle.vp8_records.specs.Layout.{joined, flat_coeffs, flat_mv}
use Rattle.rfc6386.specs.Decoder.{pick}
use Rattle.vp8_flat.specs.Bytes.{segmentation_bytes, adjustment_bytes, flat_modes}
use Rattle.std.proofs.Common.{Ok, Err}
use Rattle.vp8_state.specs.declared.BlockRefusal.{BlockRefusal}
use Rattle.vp8_state.specs.declared.BlockRefusal.TheVariants.{OtherSize, Fault}
use Rattle.vp8_state.specs.Block.{heading, record_bytes, block, agree, allows, kinds, faultless, refusal_of, block_verdict, write_verdict}
use Rattle.vp8_state.specs.Laid.{parser_of}
use Rattle.vp8_state.specs.Handed.{taken, left, write_block, state_read, state_write}
use Rattle.vp8_state.proofs.Pastes.{begin, more, whole}
use Rattle.vp8_state.proofs.Laid.{Bytes, bytes_back}
use Rattle.vp8_state.proofs.Blocks.{is_block, taken_bytes}

-- a table looks at no more bytes than it has numbers
agree_front : {K : Type 0} (t : K → ℕ → Bool) (ks : List K) (xs ys : List ℕ) → length ks ≤ length xs → agree t ks (xs ++ ys) ≡ agree t ks xs
unfolding agree
agree_front t [] xs ys h = refl
agree_front t (k ∷ ks) [] ys h = absurd (omega arith)
agree_front t (k ∷ ks) (x ∷ xs) ys h = ap (λ (b : Bool). t k x && b) (agree_front t ks xs ys (le_of_suc-le-suc h))

module _ (p : Parser) (b first : List ℕ) (is : first ≡ segmentation_bytes p.segmentation ++ adjustment_bytes p.mb_lf_adjust) where
  in_front : record_bytes p ≡ first ++ (flat_coeffs p.coeff_prob ++ (flat_mv p.mv_prob ++ flat_modes p.mode_probs))
  unfolding record_bytes joined
  in_front = rw is (simp (append_assoc, append-nil))

  tested : length first ≡ 25 → faultless (record_bytes p) ≡ faultless first
  unfolding kinds
  tested n = ap (agree allows kinds) in_front ∙ agree_front allows kinds first _ (omega (arith, n))

  pub refused_fault : length b ≡ 1148 → length first ≡ 25 → faultless first ≡ false → left (Err Fault) b ≡ write_block p b
  unfolding write_block write_verdict
  refused_fault n m h = rw (eq-eqb (length b) 1148 n, tested m, h)

  pub was_written : length b ≡ 1148 → length first ≡ 25 → faultless first ≡ true → {c : List ℕ}
      → c ≡ heading ++ first ++ flat_coeffs p.coeff_prob ++ flat_mv p.mv_prob ++ flat_modes p.mode_probs
      → left (Ok tt) c ≡ write_block p b
  unfolding write_block write_verdict block
  was_written n m h e = rw (eq-eqb (length b) 1148 n, tested m, h, in_front) (ap (left (Ok tt)) (e ∙ simp append_assoc))

pub refused_size : (p : Parser) (b : List ℕ) → (length b ≡ 1148 → ⊥) → left (Err OtherSize) b ≡ write_block p b
unfolding write_block write_verdict
refused_size p b h = rw (ne_eqb (length b) 1148 h)

heading_size : length heading ≡ 22
unfolding heading
heading_size = refl

-- the exported writing, of the bytes s
module _ (s b : List ℕ) where
  pub other_block : (length b ≡ 1148 → ⊥) → left 13 b ≡ state_write s b
  unfolding state_write write_verdict
  other_block h = rw (ne_eqb (length b) 1148 h) (go (eqb (length s) 1126))
    where
      go : (x : Bool)
          → left 13 b ≡ (let v = pick x (Err OtherSize) (Err OtherSize) in left (refusal_of v) (taken v (block (parser_of s)) b))
      go true = refl
      go false = refl

  pub other_record : (length s ≡ 1126 → ⊥) → left 13 b ≡ state_write s b
  unfolding state_write
  other_record h = rw (ne_eqb (length s) 1126 h)

  module _ (n : length b ≡ 1148) (m : length s ≡ 1126) where
    pub faulty : faultless s ≡ false → left 15 b ≡ state_write s b
    unfolding state_write write_verdict
    faulty h = rw (eq-eqb (length s) 1126 m, eq-eqb (length b) 1148 n, h)

    filled : {d : List ℕ} → d ≡ paste (paste b 0 heading (length heading)) 22 s (length s) → d ≡ heading ++ s
    filled {d} p =
        let k = heading_size in
        let all : length (heading ++ s) ≡ 1148 = length-append heading s ∙ omega arith in
        let a = more [] heading 0 (begin n) refl (omega arith) refl in
        whole (more heading s 22 a (sym k) (omega arith) p) all

    pub stored : Bytes s → faultless s ≡ true → {d : List ℕ} → d ≡ paste (paste b 0 heading (length heading)) 22 s (length s)
        → left 0 d ≡ state_write s b
    unfolding state_write write_verdict block
    stored bytes h {d} p =
        let e : d ≡ heading ++ record_bytes (parser_of s) =
        filled p ∙ ap (λ (l : List ℕ). heading ++ l) (sym (bytes_back s m h bytes)) in
        rw (eq-eqb (length s) 1126 m, eq-eqb (length b) 1148 n, h) (ap (left {A = ℕ} 0) e)

-- the exported reading, of the block b into the buffer o
module _ (b o : List ℕ) where
  pub other_buffer : (length o ≡ 1126 → ⊥) → left 13 o ≡ state_read b o
  unfolding state_read
  other_buffer h = rw (ne_eqb (length o) 1126 h)

  module _ (n : length o ≡ 1126) where
    pub not_read : {e : BlockRefusal} → Err e ≡ block_verdict b → left (refusal_of (Err e)) o ≡ state_read b o
    unfolding state_read
    not_read h = rw (eq-eqb (length o) 1126 n, ← h)

    pub was_read : Bytes b → block_verdict b ≡ Ok tt → {c : List ℕ} → c ≡ paste o 0 (drop 22 b) (length (drop 22 b))
        → left 0 c ≡ state_read b o
    unfolding state_read
    was_read bytes h {c} p =
        let t = is_block b h in
        let e : c ≡ drop 22 b = whole (more [] (drop 22 b) 0 (begin n) refl (omega (arith, t.rest)) p) t.rest in
        rw (eq-eqb (length o) 1126 n, h) (ap (left 0) (e ∙ sym (taken_bytes b bytes h)))
