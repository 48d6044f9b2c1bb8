use Rattle.bool_decoder.proofs.Each.{Turns}
use Rattle.rfc6386.specs.Reads.{lit}
use Rattle.vp8_fields.proofs.arrays.bytes.Given as goal

abbrev pub invariant-loop-value : goal.invariant-loop-value
invariant-loop-value g l = Turns (λ i x. lit 8) 8 l.fn.dec l.fn.old l.value-items l.dec l.value-index
