-- The two bytes are the area's first two: `fresh`.
use Rattle.bool_slow.proofs.Bytes.{fresh}
use Rattle.bool_slow.proofs.Steps.{begins}
use Rattle.bool_slow.proofs.SlowDecoder.init_bool_decoder.Goals as goal

pub invariant_of-result : goal.invariant_of-result
invariant_of-result c = let bytes = c.type_inv.area in
    record { over = (fresh c.args.area.now _ _ (λ i. (bytes i).fits) c.byte_at-first.ensures c.byte_at-second.ensures).over }

pub returns : goal.returns
returns c = let bytes = c.type_inv.area in
    begins (fresh c.args.area.now _ _ (λ i. (bytes i).fits) c.byte_at-first.ensures c.byte_at-second.ensures)
