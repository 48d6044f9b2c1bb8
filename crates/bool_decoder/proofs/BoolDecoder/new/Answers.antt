-- The first eight bytes are one number, with the rest of the area the area's: `started`.
use Rattle.bool_decoder.proofs.Stream.{started}
use Rattle.bool_decoder.proofs.Over.{fresh}
use Rattle.bool_decoder.proofs.Steps.{begins}
use Rattle.bool_decoder.proofs.BoolDecoder.new.Goals as goal

pub invariant_of-result : goal.invariant_of-result
invariant_of-result c =
    let area = c.args.area.now in
    let bytes = c.type_inv.area in
    let v = started area c.byte_at.ensures c.byte_at-2.ensures c.byte_at-3.ensures c.byte_at-4.ensures c.byte_at-5.ensures
    c.byte_at-6.ensures c.byte_at-7.ensures c.byte_at-8.ensures (λ i. (bytes i).fits) c.from_be_bytes-value.ensures in
    let f = fresh area _ v.0 v.1 (λ i. (bytes i).fits) c.limit_of.ensures in
    record { over = f.over }

pub returns : goal.returns
returns c =
    let area = c.args.area.now in
    let bytes = c.type_inv.area in
    let v = started area c.byte_at.ensures c.byte_at-2.ensures c.byte_at-3.ensures c.byte_at-4.ensures c.byte_at-5.ensures
    c.byte_at-6.ensures c.byte_at-7.ensures c.byte_at-8.ensures (λ i. (bytes i).fits) c.from_be_bytes-value.ensures in
    begins (fresh area _ v.0 v.1 (λ i. (bytes i).fits) c.limit_of.ensures)
