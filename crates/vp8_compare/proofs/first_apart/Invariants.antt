use Rattle.vp8_compare.specs.Apart.{apart_by}
use lib.ListN.{drop}
use Rattle.vp8_compare.proofs.Parts.{Turn}
use Rattle.vp8_compare.proofs.first_apart.Given as goal

abbrev pub invariant-loop-at : goal.invariant-loop-at
invariant-loop-at g l =
    let eq = g.T.PartialEq.eq in
    Turn eq l.at-iterator.a.start l.at-iterator.b.rest.now l.b (apart_by eq l.from l.a (drop l.from l.b))
