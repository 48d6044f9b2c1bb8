-- At the loop's head what is still to be read makes, with the sum so far, the whole sum. A turn takes the first probability off: one step
-- of `each`, run by `run_bind`, is the bool that was read and the flags after it.
use Prim.Native.Nat.{ℕ, suc, ◌+◌, ◌-◌, ◌≤◌, ◌<◌}
use native.Mathlib.Omega.{arith}
use native.Mathlib.Numerals.{add-one}
use mathlib.Core.Path.{◌≡◌, ap, sym, ◌∙◌}
use mathlib.Core.Bool.{Bool}
use mathlib.Core.List.{List, ◌∷◌}
use denote.Ref.{Bor}
use lib.ListN.{length, get_or, drop, drop_of_length-le}
use lib.Seq.{drop-cons}
use Rattle.rfc6386.specs.Decoder.{Out, bits, start}
use Rattle.rfc6386.specs.Reads.{Rd, ret, ◌>>=◌, run, bool, each}
use Rattle.rfc6386.proofs.Trees.{run_bind}
use Rattle.bool_decoder.specs.Model.{state_of, Room, Ran, Fresh}
use Rattle.bool_decoder.specs.declared.BoolDecoder.{BoolDecoder}
use Rattle.bench_decoder.specs.Flags.{marked, marks}

-- the flags that are read from d on
abbrev pub left : BoolDecoder → List ℕ → List Bool
left d ps = (run (each bool ps) (bits d.area.now) (state_of d)).got

first : (p : ℕ) (ps : List ℕ) (d : BoolDecoder) {b : Bool} {d' : BoolDecoder} → Ran (bool p) d b d' 1 → left d (p ∷ ps) ≡ b ∷ left d' ps
unfolding each run
first p ps d {b} {d'} r =
    let l = bits d.area.now in
    let more : Bool → Rd (List Bool) = λ y. each bool ps >>= (λ ys. ret (y ∷ ys)) in
    ap (λ (o : Out (List Bool)). o.got)
    (run_bind (bool p) more l (state_of d)
    ∙ ap (λ (o : Out Bool). run (more o.got) l o.then) r.is
    ∙ run_bind (each bool ps) (λ ys. ret (b ∷ ys)) l (state_of d'))
    ∙ ap (λ (at : Bor (List ℕ)). b ∷ (run (each bool ps) (bits at.now) (state_of d')).got) (sym r.over)

abbrev pub whole : List ℕ → List ℕ → ℕ
whole area ps = marks 0 0 (run (each bool ps) (bits area) (start area)).got

-- after i of the probabilities
pub record Turn (area table : List ℕ) (d : BoolDecoder) (sum i : ℕ) : Type 0 where
  pub count : i ≤ length table
  pub room : Room d (length table - i)
  pub same : marks sum i (left d (drop i table)) ≡ whole area table

pub begin : {area : Bor (List ℕ)} {table : List ℕ} {d : BoolDecoder} → length table ≤ 16777216 → Fresh area d
    → Turn area.now table d 0 0
begin {area} {table} {d} few f = record {
  count = omega arith;
  room = omega (arith, f.none, few);
  same =
      ap (λ (at : Bor (List ℕ)). marks 0 0 (run (each bool table) (bits at.now) (state_of d)).got) f.over
      ∙ ap (λ s. marks 0 0 (run (each bool table) (bits area.now) s).got) f.state;
}

pub turn : {area table : List ℕ} {d : BoolDecoder} {sum i : ℕ} {b : Bool} {d' : BoolDecoder}
    → Turn area table d sum i → i < length table → Ran (bool (get_or table i 0)) d b d' 1 → Turn area table d' (marked sum b i) (i + 1)
unfolding marks
turn {area} {table} {d} {sum} {i} {b} {d'} t h r = record {
  count = omega arith;
  room = omega (arith, t.room, r.most, h);
  same =
      rw (add-one i)
      (ap (marks sum i) (sym (ap (left d) (drop-cons table i 0 h) ∙ first (get_or table i 0) (drop (suc i) table) d r))
      ∙ t.same);
}

pub end : {area table : List ℕ} {d : BoolDecoder} {sum i : ℕ} → Turn area table d sum i → length table ≤ i → sum ≡ whole area table
unfolding marks each run
end {area} {table} {d} {sum} {i} t h = sym (ap (λ ps. marks sum i (left d ps)) (drop_of_length-le table h)) ∙ t.same
