-- The tests in their order, then one store: `Stores`.
use Prim.Native.Nat.{ℕ}
use mathlib.Core.List.{List}
use lib.ListN.{length}
use lib.Seq.{paste}
use mathlib.Core.Path.{ap, sym, ◌∙◌}
use borrow.Author.Rules.{part_to_end}
use Rattle.std.proofs.lemmas.Result.{err_from_is_err_and}
use Rattle.vp8_state.proofs.Stores.{other_buffer, not_read, was_read}
use Rattle.vp8_state.proofs.read_record.Goals as goal

pub returns-then-bytes-ne-RECORD : goal.returns-then-bytes-ne-RECORD
returns-then-bytes-ne-RECORD c = other_buffer c.args.block.now _ c.if-bytes-ne-RECORD.true

pub returns-in_err-block_verdict : goal.returns-in_err-block_verdict
returns-in_err-block_verdict c = let p = err_from_is_err_and c.from_residual.result c.from_residual.ensures.1 in
    rw (p.1, p.2) (not_read c.args.block.now c.args.bytes.now c.if-bytes-ne-RECORD.false c.in_err-block_verdict.ensures.verdict)

pub returns : goal.returns
returns c = let b = c.args.block.now in
    was_read b c.args.bytes.now c.if-bytes-ne-RECORD.false c.type_inv.block (sym c.in_ok-block_verdict.ensures.verdict)
    (c.put.ensures ∙ ap (λ (l : List ℕ). paste c.args.bytes.now 0 l (length l)) (part_to_end b 22))
