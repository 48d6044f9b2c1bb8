-- The kept numbers are all that a parser keeps: groups of the same lengths that make the same run are the same, and each field is read
-- back from its group. A record that code can hold has the right lengths by its type.
use Prim.Native.Nat.{ℕ, zero, suc, ◌+◌, ◌<◌}
use native.Mathlib.Omega.{arith}
use mathlib.Core.Path.{◌≡◌, refl, sym, ap, ap₂, ◌∙◌}
use mathlib.Core.Bool.{Bool, true, false}
use mathlib.Core.List.{List, [], ◌∷◌, ◌++◌, map, append_assoc}
use lib.IntN.{ℤ, pos, negsuc}
use lib.ListN.{length, take, drop, get_or, length-append, length-map, get_or-append, get_or-map}
use lib.Seq.{take_at, drop_at, ext_get_or, get_or-append-add}
use Rattle.vp8_records.specs.declared.Parser.{Parser}
use Rattle.vp8_records.specs.Layout.{joined, flat_coeffs, flat_mv}
use Rattle.vp8_records.specs.Start.{fresh}
use Rattle.rfc6386.specs.Decoder.{pick}
use Rattle.rfc6386.specs.Runs.{or}
use Rattle.rfc6386.specs.Frame.{sum}
use Rattle.rfc6386.specs.Call.{Asked, called, after}
use Rattle.rfc6386_history.specs.Kept.{flagged, groups, all, numbers, kept}
use Rattle.vp8_records.specs.Shape.{Sized}
use Rattle.rfc6386_history.specs.History.{any_cutter, since, writes, last}
use Rattle.vp8_records.proofs.Parts.{Laid, mv}
use Rattle.rfc6386_history.proofs.Writes.{sized_fresh}
use Rattle.rfc6386_history.proofs.Step.{sized_call}
use Rattle.rfc6386_history.proofs.History.{last_writer, last_writer_from}
use mir.Val.{Val}
use denote.Laws.{Is}
use Rattle.vp8_records.specs.contracts.Parser as Held
use Rattle.vp8_records.proofs.Typed.{typed_sized}

same_groups : {A : Type 0} (xs ys : List (List A)) → map length xs ≡ map length ys → all xs ≡ all ys → xs ≡ ys
unfolding joined
same_groups [] [] h e = refl
same_groups [] (y ∷ ys) h e = absurd (grind arith)
same_groups (x ∷ xs) [] h e = absurd (grind arith)
same_groups {A} (x ∷ xs) (y ∷ ys) h e =
    let n : length x ≡ length y = cc in
    let ns : map length xs ≡ map length ys = cc in
    let first : x ≡ y = sym (take_at x (all xs) _ n) ∙ ap (λ (l : List A). take (length y) l) e ∙ take_at y (all ys) _ refl in
    let rest : all xs ≡ all ys = sym (drop_at x (all xs) _ n) ∙ ap (λ (l : List A). drop (length y) l) e ∙ drop_at y (all ys) _ refl in
    ap₂ {C = List (List A)} (λ a b. a ∷ b) first (same_groups xs ys ns rest)

pub length_all : {A : Type 0} (xs : List (List A)) → length (all xs) ≡ sum (map length xs)
unfolding joined sum
length_all [] = refl
length_all (x ∷ xs) = length-append x (all xs) ∙ ap (λ (n : ℕ). length x + n) (length_all xs)

lengths_are : (p : Parser) → Sized p → map length (groups p) ≡ 4 ∷ 4 ∷ 4 ∷ 3 ∷ 2 ∷ 4 ∷ 4 ∷ 1056 ∷ 38 ∷ 4 ∷ 3 ∷ []
lengths_are p s =
    λ i.
    4 ∷ s.quantizers i ∷ s.levels i ∷ bytes p.segmentation.segment_prob s.probs i ∷ 2 ∷ s.frames i ∷ s.modes i
    ∷ bytes (flat_coeffs p.coeff_prob) s.coeffs i
    ∷ bytes (flat_mv p.mv_prob) (mv.size p.mv_prob s.motion) i
    ∷ bytes p.mode_probs.intra_16x16_prob s.luma i
    ∷ bytes p.mode_probs.intra_chroma_prob s.chroma i
    ∷ []
  where
    bytes : (xs : List ℕ) {n : ℕ} → length xs ≡ n → length (map pos xs) ≡ n
    bytes xs h = length-map xs pos ∙ h

-- there are 1,126
pub how_many : (p : Parser) → Sized p → length (numbers p) ≡ 1126
unfolding numbers sum
how_many p s = length_all (groups p) ∙ ap sum (lengths_are p s)

all_cut : {A : Type 0} (n : ℕ) (xs : List (List A)) → all xs ≡ all (take n xs) ++ all (drop n xs)
unfolding joined
all_cut zero xs = refl
all_cut (suc n) [] = refl
all_cut {A} (suc n) (x ∷ xs) =
    ap (λ (l : List A). x ++ l) (all_cut n xs) ∙ sym (append_assoc x (all (take n xs)) (all (drop n xs)))

-- the coefficient probabilities follow the first seven groups, which are 25 numbers
pub kept_coeff : (p : Parser) → Sized p → (n : ℕ) → n < 1056 → kept p (25 + n) ≡ pos (get_or (flat_coeffs p.coeff_prob) n 0)
unfolding kept numbers joined sum
kept_coeff p s n h =
    let cs : List ℕ = flat_coeffs p.coeff_prob in
    let first : List ℤ = all (take 7 (groups p)) in
    let rest : List ℤ = all (drop 7 (groups p)) in
    let long : length first ≡ 25 = length_all (take 7 (groups p)) ∙ ap (λ (ns : List ℕ). sum (take 7 ns)) (lengths_are p s) in
    ap (λ (l : List ℤ). get_or l (25 + n) (pos 0)) (all_cut 7 (groups p))
    ∙ ap (λ (k : ℕ). get_or (first ++ rest) (k + n) (pos 0)) (sym long) ∙ get_or-append-add first rest n (pos 0)
    ∙ get_or-append (map pos cs) _ (pos 0) n (omega (arith, length-map cs pos, s.coeffs, h)) ∙ get_or-map pos cs n 0

-- a flag and a byte are back from their numbers
abbrev is_one : ℤ → Bool
is_one (pos zero) = false
is_one (pos (suc n)) = true
is_one (negsuc n) = false

is_one_flagged : (b : Bool) → is_one (flagged b) ≡ b
is_one_flagged true = refl
is_one_flagged false = refl

abbrev byte : ℤ → ℕ
byte (pos n) = n
byte (negsuc n) = 0

byte_pos : (xs : List ℕ) → map byte (map pos xs) ≡ xs
byte_pos [] = refl
byte_pos (x ∷ xs) = ap (λ (l : List ℕ). x ∷ l) (byte_pos xs)

module _ (p q : Parser) (s : Sized p) (t : Sized q) where
  same_numbers : numbers p ≡ numbers q → p ≡ q
  unfolding numbers
  same_numbers e =
      λ i. record {
        segmentation = record {
          segmentation_enabled = flag 0 0 (λ x. x.segmentation.segmentation_enabled) (λ x. refl) i;
          update_mb_segmentation_map = flag 0 1 (λ x. x.segmentation.update_mb_segmentation_map) (λ x. refl) i;
          update_segment_feature_data = flag 0 2 (λ x. x.segmentation.update_segment_feature_data) (λ x. refl) i;
          segment_feature_mode = flag 0 3 (λ x. x.segmentation.segment_feature_mode) (λ x. refl) i;
          quantizer_update_value = group 1 i;
          lf_update_value = group 2 i;
          segment_prob = bytes 3 (λ x. x.segmentation.segment_prob) (λ x. refl) i;
        };
        mb_lf_adjust = record {
          loop_filter_adj_enable = flag 4 0 (λ x. x.mb_lf_adjust.loop_filter_adj_enable) (λ x. refl) i;
          mode_ref_lf_delta_update = flag 4 1 (λ x. x.mb_lf_adjust.mode_ref_lf_delta_update) (λ x. refl) i;
          ref_frame_delta = group 5 i;
          mb_mode_delta = group 6 i;
        };
        coeff_prob = record { v = bytes 7 (λ x. flat_coeffs x.coeff_prob) (λ x. refl) i };
        mv_prob = laid mv p.mv_prob q.mv_prob s.motion t.motion (bytes 8 (λ x. flat_mv x.mv_prob) (λ x. refl)) i;
        mode_probs = record {
          intra_16x16_prob = bytes 9 (λ x. x.mode_probs.intra_16x16_prob) (λ x. refl) i;
          intra_chroma_prob = bytes 10 (λ x. x.mode_probs.intra_chroma_prob) (λ x. refl) i;
        };
      }
    where
      same : groups p ≡ groups q
      same = same_groups (groups p) (groups q) (lengths_are p s ∙ sym (lengths_are q t)) e

      group : (j : ℕ) → get_or (groups p) j [] ≡ get_or (groups q) j []
      group j = ap (λ (gs : List (List ℤ)). get_or gs j []) same

      flag : (j k : ℕ) (f : Parser → Bool) → ((x : Parser) → get_or (get_or (groups x) j []) k (pos 0) ≡ flagged (f x)) → f p ≡ f q
      flag j k f h =
          sym (is_one_flagged (f p)) ∙ ap is_one (sym (h p) ∙ ap (λ (l : List ℤ). get_or l k (pos 0)) (group j) ∙ h q) ∙ is_one_flagged (f q)

      bytes : (j : ℕ) (f : Parser → List ℕ) → ((x : Parser) → get_or (groups x) j [] ≡ map pos (f x)) → f p ≡ f q
      bytes j f h = sym (byte_pos (f p)) ∙ ap (λ (l : List ℤ). map byte l) (sym (h p) ∙ group j ∙ h q) ∙ byte_pos (f q)

      laid : {A : Type 0} {flat : A → List ℕ} {make : List ℕ → A} {n : ℕ} {Good : A → Type 0} → Laid flat make n Good
          → (x y : A) → Good x → Good y → flat x ≡ flat y → x ≡ y
      laid {A} {flat} {make} law x y g h e =
          sym (law.back x g []) ∙ ap {B = A} (λ l. make (l ++ [])) e ∙ law.back y h []

  -- so two parsers of the right shape that keep the same numbers are the same
  pub numbers_are_all : ((i : ℕ) → kept p i ≡ kept q i) → p ≡ q
  unfolding kept
  numbers_are_all h = same_numbers (ext_get_or (pos 0) (numbers p) (numbers q) (how_many p s ∙ sym (how_many q t)) (λ i l. h i))

-- calls keep the shape, so it holds of every parser that calls make of the fresh one
pub sized_after : (p : Parser) (xs : List Asked) → Sized p → Sized (after p xs)
unfolding after
sized_after p [] s = s
sized_after p (x ∷ xs) s = sized_after (called p x).parser xs (sized_call p x s)

-- a parser that keeps the last writers' numbers is the one that the calls leave, and no other
pub only : (q : Parser) (xs : List Asked) → Sized q
    → ((i : ℕ) → kept q i ≡ or (last (map (λ f. writes f i) (since xs))) (kept fresh i)) → q ≡ after fresh xs
only q xs s h = numbers_are_all q (after fresh xs) s (sized_after fresh xs sized_fresh) (λ i. h i ∙ sym (last_writer xs i))

-- the same of records that code can hold, the values of the type `Parser`: with no premise on their shape
module _ (p : Parser) (vs : List Val) (held : Is Held.the_row p vs) where
  pub held_many : length (numbers p) ≡ 1126
  held_many = how_many p (typed_sized p vs held)

  pub held_are_all : (q : Parser) (ws : List Val) → Is Held.the_row q ws → ((i : ℕ) → kept p i ≡ kept q i) → p ≡ q
  held_are_all q ws other = numbers_are_all p q (typed_sized p vs held) (typed_sized q ws other)

  pub held_only : (xs : List Asked) → ((i : ℕ) → kept p i ≡ or (last (map (λ f. writes f i) (since xs))) (kept fresh i))
      → p ≡ after fresh xs
  held_only xs = only p xs (typed_sized p vs held)

  pub held_writer : (xs : List Asked) (i : ℕ)
      → kept (after p xs) i ≡ or (last (map (λ f. writes f i) (since xs))) (kept (pick (any_cutter xs) fresh p) i)
  held_writer xs i = last_writer_from p xs i (typed_sized p vs held)
