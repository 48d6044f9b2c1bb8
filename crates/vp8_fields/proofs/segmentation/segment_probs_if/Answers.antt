-- The reads under a flag; from three of 255, the loop reads three anew.
use native.Mathlib.Omega.{arith}
use borrow.Author.Rules.{rules}
use mathlib.Core.Path.{◌≡◌}
use lib.ListN.{length}
use Rattle.rfc6386.specs.Reads.{lit}
use Rattle.rfc6386.specs.Runs.{over}
use Rattle.bool_decoder.proofs.Chain.{upto}
use Rattle.bool_decoder.proofs.Steps.{done}
use Rattle.bool_decoder.proofs.Made.{make_on, make_off, same}
use Rattle.vp8_fields.proofs.InPlace.{anew_over}
use Rattle.vp8_fields.proofs.segmentation.segment_probs_if.Goals as goal

pub returns-then-on : goal.returns-then-on
returns-then-on c =
    let n : length c.args.old ≡ 3 = search rules in
    same (make_on _ _ _ c.if-on.true) (same (anew_over (lit 8) 255 3 c.args.old n) c.bytes_or.ensures)

pub returns-else-on : goal.returns-else-on
unfolding over
returns-else-on c = upto (omega arith) (same (make_off _ _ _ c.if-on.false) done)
