-- The loop lists one size more at each turn: `coded_more`, `padded_more` and `sum_more`.
use Rattle.std.proofs.Common.{◌≡◌, ℕ, ◌+◌, List, [], ◌∷◌, ◌++◌, set, refl, ap, sym, ◌∙◌, arith}
use Rattle.rfc6386.specs.Frame.{coded_sizes, sum}
use Rattle.rfc6386.proofs.Fills.{length_coded}
use Rattle.vp8_parser.specs.Answers.{padded}
use Rattle.vp8_parser.proofs.Partitions.{coded_more, sum_more, padded_more}
use Rattle.vp8_parser.proofs.coded_sizes.Goals as goal

pub loop-i-init : goal.loop-i-init
unfolding coded_sizes sum
loop-i-init c = record { listed = refl; added = refl; bounded = omega arith }

pub loop-i-preserved : goal.loop-i-preserved
loop-i-preserved c = let l = c.loop-i in
    let a = c.args in
    let xs : List ℕ = coded_sizes l.i a.area.now a.start in
    let x : ℕ = c.read_le3-size.result in
    let more : coded_sizes (l.i + 1) a.area.now a.start ≡ xs ++ (x ∷ []) =
    coded_more l.i a.area.now a.start ∙ ap (λ (y : ℕ). xs ++ (y ∷ [])) (sym c.read_le3-size.ensures) in
    record {
      listed =
          ap (λ (ys : List ℕ). set ys l.i x) l.invariant.listed
          ∙ padded_more xs l.i x (length_coded l.i a.area.now a.start) (omega arith) ∙ ap padded (sym more);
      added = omega (arith, l.invariant.added, sum_more xs x, ap sum more);
      bounded = omega (arith, l.invariant.bounded, c.read_le3-size.type_inv);
    }
