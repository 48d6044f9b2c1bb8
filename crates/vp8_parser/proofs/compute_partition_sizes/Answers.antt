-- Each test answers the definition's (Frames); the last size goes behind those that are coded (Partitions).
use Rattle.std.proofs.Common.{◌≡◌, ℕ, ◌+◌, ◌-◌, ◌*◌, List, [], ◌∷◌, ◌++◌, length, set, ap, sym, ◌∙◌, arith}
use Rattle.std.specs.Prelude.{Some}
use Rattle.rfc6386.specs.Frame.{coded_sizes, sum}
use Rattle.rfc6386.proofs.Fills.{length_coded}
use Rattle.vp8_parser.specs.Answers.{padded, sizes_of}
use Rattle.vp8_parser.proofs.Frames.{sizes_unread, sizes_beyond_lem, sizes_are}
use Rattle.vp8_parser.proofs.Partitions.{padded_more}
use Rattle.vp8_parser.proofs.compute_partition_sizes.Goals as goal

pub returns-in_err-rest : goal.returns-in_err-rest
returns-in_err-rest c = let a = c.args in
    c.from_residual.ensures ∙ ap sizes_of (sym (sizes_unread a.partitions a.area.now a.first (omega (arith, c.in_err-rest.ensures))))

pub returns-in_err-sizes : goal.returns-in_err-sizes
returns-in_err-sizes c = let a = c.args in
    let rest = c.in_ok-rest.ensures in
    let total = ap (λ (r : List ℕ × ℕ). r.1) c.coded_sizes-total.ensures in
    c.from_residual-in_err-sizes.ensures
    ∙ ap sizes_of
    (sym (sizes_beyond_lem a.partitions a.area.now a.first rest.0 (omega (arith, rest.0, rest.1, total, c.in_err-sizes.ensures))))

pub returns : goal.returns
returns c = let a = c.args in
    let n : ℕ = a.partitions in
    let rest = c.in_ok-rest.ensures in
    let last = c.in_ok-sizes.ensures in
    let coded = c.coded_sizes-total.ensures in
    let area : List ℕ = a.area.now in
    let xs : List ℕ = coded_sizes (n - 1) area a.first in
    let x : ℕ = length area - (a.first + 3 * (n - 1) + sum xs) in
    let total = ap (λ (r : List ℕ × ℕ). r.1) coded in
    let whole = sizes_are n area a.first rest.0 (omega (arith, rest.0, rest.1, total, last.0)) in
    let is : c.in_ok-sizes.field-0 ≡ x = omega (arith, rest.1, total, last.1) in
    ap Some
    (ap (λ (r : List ℕ × ℕ). set r.0 (n - 1) c.in_ok-sizes.field-0) coded
    ∙ padded_more xs (n - 1) _ (length_coded (n - 1) area a.first) (omega arith)
    ∙ ap (λ (y : ℕ). padded (xs ++ (y ∷ []))) is)
    ∙ ap sizes_of (sym whole)
