-- In an accepted frame the parts lie end to end and fill it, and the bools are within their bounds. The lengths add up to the frame's,
-- and cuts of lengths that add up have those lengths and join to the whole.
use Prim.Native.Nat.{ℕ, zero, suc, ◌+◌, ◌-◌, ◌*◌, ◌^◌, ◌≤◌, ◌<◌}
use native.Mathlib.Omega.{arith}
use native.Mathlib.Nat.{pow-le-pow_right}
use mathlib.Core.Path.{◌≡◌, refl, sym, ap, ap₂, ◌∙◌}
use mathlib.Core.Bool.{Bool, true, false}
use mathlib.Core.Option.{none, some}
use mathlib.Core.List.{List, [], ◌∷◌, ◌++◌, map}
use lib.Dec.{ltb}
use lib.ListN.{length, take, drop, replicate, length-drop, length-append, take-append-drop}
use lib.Pow.{pow_pos}
use lib.Seq.{length-take-le, take_at, take-take}
use borrow.Author.Tests.{ltb-false}
use Rattle.std.specs.Prelude.{Ok}
use Rattle.vp8_records.specs.declared.Mode.{Mode}
use Rattle.vp8_records.specs.declared.Parser.{Parser}
use Rattle.vp8_records.specs.declared.Parsed.{Parsed}
use Rattle.vp8_records.specs.Layout.{joined}
use Rattle.rfc6386.specs.Decoder.{bits, start}
use Rattle.rfc6386.specs.Coded.{Coded, header}
use Rattle.rfc6386.specs.Frame.{Snapshot, coded_sizes, sum, sizes, snapshot, decoded}
use Rattle.rfc6386.specs.Call.{header_of, call}
use Rattle.rfc6386.specs.Fills.{lengths, cuts, Fills}
use Rattle.rfc6386.proofs.Trees.{Always}
use Rattle.rfc6386.proofs.Counts.{Counted, key_header_lem, inter_header_lem}
use Rattle.rfc6386.proofs.Holds.{header_fits}
use Rattle.rfc6386.proofs.Accepts.{held_by, accepted}

cuts_are : (ns f : List ℕ) → sum ns ≡ length f → (map length (cuts ns f) ≡ ns) × (joined (λ part. part) (cuts ns f) ≡ f)
unfolding cuts joined sum
cuts_are [] [] e = (refl, refl)
cuts_are [] (x ∷ f) e = absurd (omega (arith, e))
cuts_are (n ∷ ns) f e =
    let r = cuts_are ns (drop n f) (omega (arith, e, length-drop n f)) in
    let first : length (take n f) ≡ n = length-take-le n f (omega (arith, e)) in
    (ap₂ {C = List ℕ} (λ x xs. x ∷ xs) first r.0, ap {B = List ℕ} (λ xs. take n f ++ xs) r.1 ∙ take-append-drop n f)

pub sum_append : (xs ys : List ℕ) → sum (xs ++ ys) ≡ sum xs + sum ys
unfolding sum
sum_append [] ys = omega arith
sum_append (x ∷ xs) ys = omega (arith, sum_append xs ys)

pub length_coded : (k : ℕ) (area : List ℕ) (i : ℕ) → length (coded_sizes k area i) ≡ k
unfolding coded_sizes
length_coded zero area i = refl
length_coded (suc k) area i = ap suc (length_coded k area (i + 3))

-- the sizes of n partitions: there are n, and they fill what the first partition and the size bytes leave
sizes_fill : (n : ℕ) (area : List ℕ) (first : ℕ) (ss : List ℕ) → 0 < n → sizes n area first ≡ some ss
    → (length ss ≡ n) × (first + (3 * (n - 1) + sum ss) ≡ length area)
unfolding sizes sum
sizes_fill n area first ss h e = go (ltb (length area) from) refl (ltb (length area) (from + sum coded)) refl e
  where
    from : ℕ
    from = first + 3 * (n - 1)

    coded : List ℕ
    coded = coded_sizes (n - 1) area first

    last : ℕ
    last = length area - (from + sum coded)

    go : (a : Bool) → ltb (length area) from ≡ a → (b : Bool) → ltb (length area) (from + sum coded) ≡ b
        → elim a [ true ↦ none | false ↦ elim b [ true ↦ none | false ↦ some (coded ++ last ∷ []) ] ] ≡ some ss
        → (length ss ≡ n) × (first + (3 * (n - 1) + sum ss) ≡ length area)
    go true p b q e = absurd (grind arith)
    go false p true q e = absurd (grind arith)
    go false p false q e =
        let is : coded ++ last ∷ [] ≡ ss = cc in
        let fits : from + sum coded ≤ length area = ltb-false _ _ q in
        let total : sum ss ≡ sum coded + sum (last ∷ []) = ap sum (sym is) ∙ sum_append coded (last ∷ []) in
        let one : sum (last ∷ []) ≡ last = omega arith in
        let count : length (coded ++ last ∷ []) ≡ n = length-append coded (last ∷ []) ∙ omega (arith, length_coded (n - 1) area first) in
        (ap length (sym is) ∙ count, omega (arith, total, one, fits))

-- the header codes at most 8 partitions
abbrev pub FewParts : Coded → Type 0
FewParts c = c.log2parts < 4

pub few_parts : (md : Mode) (key : Bool) → Always FewParts (header md key)
few_parts md key l s = (header_fits md key l s).log2parts

-- n is 1, 2, 4 or 8
pub few_partitions : (x : ℕ) → x < 4 → 2 ^ x ≤ 8
few_partitions x h = pow-le-pow_right {n = 2} (omega arith) {i = x} {j = 3} (omega arith)

-- the parts' lengths by the header of an accepted frame add up to the frame
module _ (md : Mode) (p : Parser) (f : List ℕ) (h : (call md p f).outcome ≡ Ok tt) where
  adds_up : sum (lengths (call md p f).header) ≡ length f
  unfolding header_of sum
  adds_up =
      let a = accepted md p f h in
      let n : ℕ = 2 ^ a.c.log2parts in
      let bytes : List ℕ = held_by md a.k f in
      let small : a.c.log2parts < 4 = rw a.reading.coded at (few_parts md a.k.key (bits bytes) (start bytes)) in
      let eight : n ≤ 8 = few_partitions _ small in
      let some : 0 < n = pow_pos a.c.log2parts in
      let r = sizes_fill n (drop a.k.size f) a.k.first a.ss some a.reading.parts in
      let take8 : take n (take 8 (a.ss ++ replicate 8 0)) ≡ a.ss =
      take-take n 8 _ eight ∙ take_at a.ss (replicate 8 0) n r.0 in
      ap (λ (x : Parsed). sum (lengths x.header)) a.answers
      ∙ rw take8 (omega (arith, r.1, length-drop a.k.size f, a.reading.fits))

  pub accepted_fills : Fills (call md p f).header f
  accepted_fills =
      let c = cuts_are (lengths (call md p f).header) f adds_up in
      record { each = c.0; whole = c.1 }

  -- a key frame has 1,086 to 9,730 bools, an inter frame 1,153 to 10,123
  bools_are : (b : Bool) → (call md p f).header.key_frame ≡ b → (lo hi : ℕ) → Counted (header md b) lo hi
      → (lo ≤ (call md p f).header.bools) × ((call md p f).header.bools ≤ hi)
  unfolding header_of snapshot start
  bools_are b e lo hi q =
      let a = accepted md p f h in
      let key : a.k.key ≡ b = sym (ap (λ (x : Parsed). x.header.key_frame) a.answers) ∙ e in
      let bytes : List ℕ = held_by md a.k f in
      let n : (call md p f).header.bools ≡ (decoded md b bytes).then.n =
      ap (λ (x : Parsed). x.header.bools) a.answers ∙ sym (ap (λ (s : Snapshot). s.bools) a.reading.seen)
      ∙ ap (λ (key : Bool). (decoded md key bytes).then.n) key in
      (omega (arith, n, q.low (bits bytes) (start bytes)), omega (arith, n, q.high (bits bytes) (start bytes)))

  pub key_bools : (call md p f).header.key_frame ≡ true → (1086 ≤ (call md p f).header.bools) × ((call md p f).header.bools ≤ 9730)
  key_bools e = bools_are true e 1086 9730 (key_header_lem md)

  pub inter_bools : (call md p f).header.key_frame ≡ false → (1153 ≤ (call md p f).header.bools) × ((call md p f).header.bools ≤ 10123)
  inter_bools e = bools_are false e 1153 10123 (inter_header_lem md)
