-- What follows a chunk, put together: the sizes by the code's tests, and the answer by the sizes. Each test is known, so it picks.
use Rattle.std.proofs.Common.{◌≡◌, ℕ, ◌+◌, ◌-◌, ◌*◌, ◌^◌, ◌≤◌, ◌<◌, Bool, true, false, List, [], ◌∷◌, ◌++◌, length, drop, refl, sym, ap, ◌∙◌, arith}
use Rattle.std.proofs.Math.Option.{Option, none, some}
use native.Mathlib.Nat.{mod-eq_of_lt}
use lib.Pow.{pow_pos}
use borrow.Author.Tests.{lt-ltb, le-ltb}
use Rattle.std.proofs.lemmas.Option.{none-some, same_Some}
use Rattle.std.specs.Prelude.{Ok, Err, Some, None}
use Rattle.vp8_records.specs.declared.Mode.{Mode}
use Rattle.vp8_records.specs.declared.Parsed.{Parsed}
use Rattle.vp8_records.specs.declared.Parser.{Parser}
use Rattle.vp8_records.specs.declared.Refusal.TheVariants.{InvalidPartitionSize, EmptyArea, EndOfHeader}
use Rattle.vp8_records.specs.Start.{fresh, blank}
use Rattle.rfc6386.specs.Decoder.{start, bits, pick}
use Rattle.rfc6386.specs.Coded.{Coded}
use Rattle.rfc6386.specs.Frame.{Chunk, Snapshot, Body, follows, coded_sizes, sum, sizes, decoded, headed, body}
use Rattle.vp8_records.specs.Length.{partitions_of}
use Rattle.rfc6386.specs.Call.{probs_of, probs_over, shown, apply, cleared, header_of, reset, base, answer, sized, finish}
use Rattle.rfc6386.proofs.Accepts.{held_by}
use Rattle.rfc6386.proofs.Fills.{few_parts, few_partitions}
use Rattle.vp8_header.specs.Headed.{headed_of}
use Rattle.vp8_parser.specs.Answers.{sizes_of, sized_of}
use Rattle.vp8_parser.proofs.Opens.{yes_test, no_test, body_beyond, body_empty, body_read}

module _ (n : ℕ) (area : List ℕ) (first : ℕ) where
  pub sizes_unread : length area < first + 3 * (n - 1) → sizes n area first ≡ none
  unfolding sizes
  sizes_unread h = yes_test _ _ (lt-ltb _ _ h)

  pub sizes_beyond_lem : first + 3 * (n - 1) ≤ length area
      → length area < first + 3 * (n - 1) + sum (coded_sizes (n - 1) area first) → sizes n area first ≡ none
  unfolding sizes
  sizes_beyond_lem h g = no_test _ _ (le-ltb _ _ h) ∙ yes_test _ _ (lt-ltb _ _ g)

  pub sizes_are : first + 3 * (n - 1) ≤ length area → first + 3 * (n - 1) + sum (coded_sizes (n - 1) area first) ≤ length area
      → sizes n area first
      ≡ some (coded_sizes (n - 1) area first ++ ((length area - (first + 3 * (n - 1) + sum (coded_sizes (n - 1) area first))) ∷ []))
  unfolding sizes
  sizes_are h g = no_test _ _ (le-ltb _ _ h) ∙ no_test _ _ (le-ltb _ _ g)

-- the header codes 1, 2, 4 or 8 partitions
pub few : (md : Mode) (key : Bool) (bytes : List ℕ) → (decoded md key bytes).got.log2parts < 4
few md key bytes = few_parts md key (bits bytes) (start bytes)

-- so its number of partitions is the definition's, and there are 1 to 8
pub partitions_are : (md : Mode) (k : Chunk) (bytes : List ℕ) (p : Parser)
    → partitions_of (headed_of md k bytes p).header ≡ 2 ^ (decoded md k.key bytes).got.log2parts
unfolding headed_of header_of
partitions_are md k bytes p = ap (λ (n : ℕ). 2 ^ n) (mod-eq_of_lt (omega (arith, few md k.key bytes)))

pub one_to_eight : (n : ℕ) → n < 4 → (1 ≤ 2 ^ n) × (2 ^ n ≤ 8)
one_to_eight n h = (pow_pos n, few_partitions n h)

-- a header that was read: with the sizes that the code found put into it, or a refusal where it found none
module _ (k : Chunk) (c : Coded) (s : Snapshot) (p : Parser) where
  -- its answer with these sizes
  abbrev with_sizes : List ℕ → Parsed
  with_sizes zs = answer (Ok tt) (record (header_of k c s [] (shown k.key (probs_over c (probs_of p)))) { partition_size = zs }) (apply c p)

  pub sized_some : (x : Option (List ℕ)) (zs : List ℕ) → Some zs ≡ sizes_of x → with_sizes zs ≡ sized x k c s p
  unfolding header_of
  sized_some none zs e = absurd (none-some _ (sym e))
  sized_some (some ss) zs e = ap with_sizes (same_Some _ _ e)

  pub sized_none : (x : Option (List ℕ)) → None ≡ sizes_of x → answer (Err EndOfHeader) blank (apply c p) ≡ sized x k c s p
  sized_none none e = refl
  sized_none (some ss) e = absurd (none-some _ e)

module _ (md : Mode) (k : Chunk) (p : Parser) (f : List ℕ) where
  pub ends_beyond : length f < k.size + k.first
      → answer (Err (InvalidPartitionSize (k.size + k.first) (length f))) blank (base k p) ≡ finish (follows k (body md k f)) p
  ends_beyond h = ap (λ (b : Body). finish (follows k b) p) (sym (body_beyond md k f h))

  -- a reset state has no flag to clear
  clears : (key : Bool) → cleared (pick key (reset k) p) ≡ pick key (reset k) (cleared p)
  unfolding cleared fresh
  clears true = refl
  clears false = refl

  pub ends_empty : k.size + k.first ≤ length f → length (held_by md k f) ≡ 0
      → answer (Err EmptyArea) blank (cleared (base k p)) ≡ finish (follows k (body md k f)) p
  ends_empty h e =
      ap (λ (q : Parser). answer (Err EmptyArea) blank q) (clears k.key)
      ∙ ap (λ (b : Body). finish (follows k b) p) (sym (body_empty md k f h e))

  pub ends_read : k.size + k.first ≤ length f → (length (held_by md k f) ≡ 0 → ⊥)
      → sized_of md k (drop k.size f) (held_by md k f) (base k p) ≡ finish (follows k (body md k f)) p
  unfolding sized_of headed
  ends_read h n = ap (λ (b : Body). finish (follows k b) p) (sym (body_read md k f h n))
