use Prim.Native.Nat.{◌+◌}
use Rattle.bool_decoder.proofs.Each.{Turns}
use Rattle.rfc6386.specs.Reads.{sint, or_else}
use Rattle.vp8_fields.proofs.arrays.sints_or.Given as goal

abbrev pub invariant-loop-value : goal.invariant-loop-value
invariant-loop-value g l =
    Turns (λ i x. or_else (sint l.nbits) x) (l.nbits + 2) l.fn.dec l.fn.old l.value-items l.dec l.value-index
