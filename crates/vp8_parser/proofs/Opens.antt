-- The definition's tests of a chunk and of what follows it, each under the facts that code has tested: a test whose answer is known picks.
use Prim.Native.Nat.{ℕ, ◌+◌, ◌%◌, ◌^◌, ◌≤◌, ◌<◌}
use native.Mathlib.Omega.{arith}
use mathlib.Core.Path.{◌≡◌, refl, sym, ap, subst, ◌∙◌}
use mathlib.Core.Bool.{Bool, true, false}
use mathlib.Core.List.{List, [], ◌∷◌}
use lib.ListN.{length, drop}
use borrow.Author.Tests.{lt-ltb, le-ltb, lt-leb, eq-eqb, ne_eqb}
use Rattle.vp8_records.specs.declared.Mode.{Mode}
use Rattle.vp8_records.specs.declared.Refusal.TheVariants.{ChunkTooShort, InvalidStartCode}
use Rattle.rfc6386.specs.Bytes.{le2, le3}
use Rattle.rfc6386.specs.Frame.{Chunk, tagged, shut, opened, key_chunk, chunk, Body, beyond, empty, decoded, headed, body}
use Rattle.rfc6386.proofs.Accepts.{held_by}

-- a test whose answer is known
pub yes_test : {A : Type 0} {b : Bool} (x y : A) → b ≡ true → elim b [ true ↦ x | false ↦ y ] ≡ x
yes_test {b} x y e = subst (λ (t : Bool). elim t [ true ↦ x | false ↦ y ] ≡ x) (sym e) refl

pub no_test : {A : Type 0} {b : Bool} (x y : A) → b ≡ false → elim b [ true ↦ x | false ↦ y ] ≡ y
no_test {b} x y e = subst (λ (t : Bool). elim t [ true ↦ x | false ↦ y ] ≡ y) (sym e) refl

module _ (f : List ℕ) where
  pub key_short : length f < 6 → shut ChunkTooShort ≡ key_chunk f
  unfolding key_chunk
  key_short h = sym (yes_test _ _ (lt-ltb _ _ h))

  pub key_other : (code : ℕ) → 6 ≤ length f → code ≡ le3 f 3 → (code ≡ 0x2a019d → ⊥) → shut (InvalidStartCode code) ≡ key_chunk f
  unfolding key_chunk
  key_other code h e n =
      ap (λ (x : ℕ). shut (InvalidStartCode x)) e
      ∙ sym (no_test _ _ (le-ltb _ _ h) ∙ no_test _ _ (ne_eqb (le3 f 3) 0x2a019d (λ q. n (e ∙ q))))

  pub key_cut : (code : ℕ) → 6 ≤ length f → code ≡ le3 f 3 → code ≡ 0x2a019d → length f < 10 → shut ChunkTooShort ≡ key_chunk f
  unfolding key_chunk
  key_cut code h e n g =
      sym (no_test _ _ (le-ltb _ _ h) ∙ yes_test _ _ (eq-eqb (le3 f 3) 0x2a019d (sym e ∙ n)) ∙ yes_test _ _ (lt-ltb _ _ g))

  pub key_whole : (code tag w h : ℕ) → code ≡ le3 f 3 → code ≡ 0x2a019d → 10 ≤ length f → tag ≡ le3 f 0 → w ≡ le2 f 6 → h ≡ le2 f 8
      → opened (tagged tag true 10 w h) ≡ key_chunk f
  unfolding key_chunk
  key_whole code tag w h e n g a b d =
      let six : 6 ≤ length f = omega arith in
      rw (a, b, d)
      (sym (no_test _ _ (le-ltb _ _ six) ∙ yes_test _ _ (eq-eqb (le3 f 3) 0x2a019d (sym e ∙ n)) ∙ no_test _ _ (le-ltb _ _ g)))

  pub chunk_short : length f < 2 ^ 28 → length f < 3 → shut ChunkTooShort ≡ chunk f
  unfolding chunk
  chunk_short h g = sym (no_test _ _ (lt-leb _ _ h) ∙ yes_test _ _ (lt-ltb _ _ g))

  pub chunk_key : length f < 2 ^ 28 → 3 ≤ length f → le3 f 0 % 2 ≡ 0 → key_chunk f ≡ chunk f
  unfolding chunk
  chunk_key h g e = sym (no_test _ _ (lt-leb _ _ h) ∙ no_test _ _ (le-ltb _ _ g) ∙ yes_test _ _ (eq-eqb (le3 f 0 % 2) 0 e))

  pub chunk_inter : length f < 2 ^ 28 → 3 ≤ length f → (le3 f 0 % 2 ≡ 0 → ⊥) → opened (tagged (le3 f 0) false 3 0 0) ≡ chunk f
  unfolding chunk
  chunk_inter h g n = sym (no_test _ _ (lt-leb _ _ h) ∙ no_test _ _ (le-ltb _ _ g) ∙ no_test _ _ (ne_eqb (le3 f 0 % 2) 0 n))

module _ (md : Mode) (k : Chunk) (f : List ℕ) where
  pub body_beyond : length f < k.size + k.first → body md k f ≡ beyond (k.size + k.first) (length f)
  unfolding body
  body_beyond h = yes_test _ _ (lt-ltb _ _ h)

  -- by what is held of the area
  abbrev body_by : List ℕ → Body
  body_by bytes = elim bytes [ [] ↦ empty | b ∷ bs ↦ headed k (drop k.size f) (b ∷ bs) (decoded md k.key (b ∷ bs)) ]

  pub body_empty : k.size + k.first ≤ length f → length (held_by md k f) ≡ 0 → body md k f ≡ empty
  unfolding body
  body_empty h e = no_test _ _ (le-ltb _ _ h) ∙ go (held_by md k f) e
    where
      go : (bytes : List ℕ) → length bytes ≡ 0 → body_by bytes ≡ empty
      go [] e = refl
      go (b ∷ bs) e = absurd (omega (arith, e))

  pub body_read : k.size + k.first ≤ length f → (length (held_by md k f) ≡ 0 → ⊥)
      → body md k f ≡ headed k (drop k.size f) (held_by md k f) (decoded md k.key (held_by md k f))
  unfolding body
  body_read h n = no_test _ _ (le-ltb _ _ h) ∙ go (held_by md k f) n
    where
      go : (bytes : List ℕ) → (length bytes ≡ 0 → ⊥) → body_by bytes ≡ headed k (drop k.size f) bytes (decoded md k.key bytes)
      go [] n = absurd (n refl)
      go (b ∷ bs) n = refl
