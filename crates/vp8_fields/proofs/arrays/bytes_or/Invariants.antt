use Rattle.bool_decoder.proofs.Each.{Turns}
use Rattle.rfc6386.specs.Reads.{make}
use Rattle.rfc6386.specs.Runs.{or}
use Rattle.vp8_fields.specs.Rows.{coded}
use Rattle.vp8_fields.proofs.arrays.bytes_or.Given as goal

abbrev pub invariant-loop-value : goal.invariant-loop-value
invariant-loop-value g l =
    Turns (λ i x. make (λ u. or u x) (coded 128)) 9 l.fn.dec l.fn.old l.value-items l.dec l.value-index
