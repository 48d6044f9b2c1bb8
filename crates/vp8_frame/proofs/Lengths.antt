-- The length of an accepted frame by its header is the frame's own: its parts fill it, they are at most 8, and it is short enough that
-- nothing wraps.
use Rattle.std.proofs.Common.{◌≡◌, ℕ, ◌+◌, ◌%◌, ◌^◌, ◌<◌, List, [], ◌∷◌, map, length, take, sum, refl, ap, sym, ◌∙◌, arith, length-append}
use native.Mathlib.Nat.{mod-eq_of_lt}
use Rattle.std.proofs.lemmas.List.Sums.{sum_by-cons}
use Rattle.std.specs.Prelude.{Ok}
use Rattle.vp8_records.specs.declared.Mode.{Mode}
use Rattle.vp8_records.specs.declared.Parser.{Parser}
use Rattle.vp8_records.specs.declared.Parsed.{Parsed}
use Rattle.vp8_records.specs.Layout.{joined}
use Rattle.vp8_records.specs.Length.{partitions_of, length_of}
use Rattle.rfc6386.specs.Decoder.{bits, start}
use Rattle.rfc6386.specs.Call.{header_of, call}
use Rattle.rfc6386.specs.Fills.{lengths, partitions}
use Rattle.rfc6386.proofs.Accepts.{held_by, accepted}
use Rattle.rfc6386.proofs.Fills.{few_parts, accepted_fills}
use Rattle.rfc6386.proofs.Peek.{opened_fits}

-- one part more
sum_is : (n : ℕ) (ns : List ℕ) → sum (n ∷ ns) ≡ n + sum ns
sum_is n ns = sum_by-cons (λ (x : ℕ). x) n ns

-- parts that are joined have the sum of their lengths
joined_length : (xs : List (List ℕ)) → sum (map length xs) ≡ length (joined (λ part. part) xs)
unfolding joined
joined_length [] = refl
joined_length (x ∷ xs) =
    omega (arith, sum_is (length x) (map length xs), joined_length xs, length-append x (joined (λ part. part) xs))

-- chunk, first partition, size bytes, and each partition
four : (a b c : ℕ) (ns : List ℕ) → sum (a ∷ b ∷ c ∷ ns) ≡ a + (b + (c + sum ns))
four a b c ns = omega (arith, sum_is a (b ∷ c ∷ ns), sum_is b (c ∷ ns), sum_is c ns)

module _ (md : Mode) (p : Parser) (f : List ℕ) (e : (call md p f).outcome ≡ Ok tt) where
  -- the number of partitions is the definition's
  pub partitions_are : partitions_of (call md p f).header ≡ partitions (call md p f).header
  unfolding header_of
  partitions_are =
      let a = accepted md p f e in
      let bytes : List ℕ = held_by md a.k f in
      let small : a.c.log2parts < 4 = rw a.reading.coded at (few_parts md a.k.key (bits bytes) (start bytes)) in
      let is : (call md p f).header.log2_nbr_of_dct_partitions ≡ a.c.log2parts =
      ap (λ (x : Parsed). x.header.log2_nbr_of_dct_partitions) a.answers in
      ap (λ (n : ℕ). 2 ^ n) (mod-eq_of_lt (omega (arith, small, is)))

  pub length_is : length_of (call md p f).header ≡ length f
  length_is =
      let h = (call md p f).header in
      let fills = accepted_fills md p f e in
      let added : sum (lengths h) ≡ length f = ap sum (sym fills.each) ∙ joined_length _ ∙ ap length fills.whole in
      let fits : length f < 2 ^ 28 = opened_fits f _ (sym (accepted md p f e).opens) in
      let whole = sym (four _ _ _ (take (partitions h) h.partition_size)) ∙ added in
      rw partitions_are (ap (λ (n : ℕ). n % 2 ^ 64) whole ∙ mod-eq_of_lt (omega (arith, fits)))
