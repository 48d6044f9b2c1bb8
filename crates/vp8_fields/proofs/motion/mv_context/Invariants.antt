use lib.ListN.{get_or}
use Rattle.bool_decoder.proofs.Each.{Turns}
use Rattle.rfc6386.specs.Reads.{make}
use Rattle.rfc6386.specs.Runs.{or}
use Rattle.vp8_fields.specs.Rows.{coded_mv}
use Rattle.vp8_fields.proofs.motion.mv_context.Given as goal

abbrev pub invariant-loop-j : goal.invariant-loop-j
invariant-loop-j l =
    Turns (λ i x. make (λ u. or u x) (coded_mv (get_or l.chances i 0))) 8 l.fn.dec l.fn.row.v l.value-items l.dec l.j
