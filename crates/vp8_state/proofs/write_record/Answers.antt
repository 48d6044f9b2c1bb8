-- The tests in their order, then both stores: `Stores`.
use Prim.Native.Nat.{ℕ}
use mathlib.Core.Path.{ap, sym, ◌∙◌}
use mathlib.Core.List.{List}
use lib.ListN.{length}
use lib.Seq.{paste}
use Rattle.vp8_state.specs.Block.{heading}
use Rattle.vp8_state.proofs.Stores.{other_block, other_record, faulty, stored}
use Rattle.vp8_state.proofs.write_record.Goals.{then-block-ne-SIZE-via-then-block-ne-SIZE}
use Rattle.vp8_state.proofs.write_record.Goals.{then-block-ne-SIZE-via-else-block-ne-SIZE+then-bytes-ne-RECORD}
use Rattle.vp8_state.proofs.write_record.Goals as goal

pub returns-then-block-ne-SIZE : goal.returns-then-block-ne-SIZE
returns-then-block-ne-SIZE c =
    elim c.then-block-ne-SIZE.branch [
      | then-block-ne-SIZE-via-then-block-ne-SIZE w ↦ other_block _ _ w.if-block-ne-SIZE.true
      | then-block-ne-SIZE-via-else-block-ne-SIZE+then-bytes-ne-RECORD w ↦ other_record c.args.bytes.now _ w.if-bytes-ne-RECORD.true
    ]

pub returns-then-not-faultless : goal.returns-then-not-faultless
returns-then-not-faultless c =
    faulty _ _ c.if-block-ne-SIZE.false c.if-bytes-ne-RECORD.false (sym c.faultless.ensures ∙ c.if-not-faultless.true)

pub returns : goal.returns
unfolding heading
returns c = let s = c.args.bytes.now in
    stored s c.args.block.now c.if-block-ne-SIZE.false c.if-bytes-ne-RECORD.false c.type_inv.bytes
    (sym c.faultless.ensures ∙ c.if-not-faultless.false)
    (c.put-2.ensures ∙ ap (λ (l : List ℕ). paste l 22 s (length s)) c.put.ensures)
