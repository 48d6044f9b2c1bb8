-- The tests in their order.
use mathlib.Core.Path.{sym, ◌∙◌}
use borrow.Author.Rules.{part_to_end}
use borrow.Author.Tests.{eq-eqb, ne_eqb}
use Rattle.vp8_state.specs.Block.{heading, block_verdict}
use Rattle.vp8_state.proofs.Agree.{starts}
use Rattle.vp8_state.proofs.block_verdict.Goals as goal

pub returns-then-block-ne-SIZE-clause-verdict : goal.returns-then-block-ne-SIZE-clause-verdict
unfolding block_verdict
returns-then-block-ne-SIZE-clause-verdict c = rw (ne_eqb _ _ c.if-block-ne-SIZE.true)

pub returns-then-not-starts_with-clause-verdict : goal.returns-then-not-starts_with-clause-verdict
unfolding block_verdict heading
returns-then-not-starts_with-clause-verdict c = let head = sym (starts heading c.args.block.now) ∙ sym c.starts_with.ensures.value in
    rw (eq-eqb _ _ c.if-block-ne-SIZE.false, head ∙ c.if-not-starts_with.true)

pub returns-then-not-faultless-clause-verdict : goal.returns-then-not-faultless-clause-verdict
unfolding block_verdict heading
returns-then-not-faultless-clause-verdict c = let head = sym (starts heading c.args.block.now) ∙ sym c.starts_with.ensures.value in
    let size = eq-eqb _ _ c.if-block-ne-SIZE.false in
    rw (size, head ∙ c.if-not-starts_with.false, ← part_to_end c.args.block.now 22, ← c.if-not-faultless.ensures)

pub returns-clause-verdict : goal.returns-clause-verdict
unfolding block_verdict heading
returns-clause-verdict c = let head = sym (starts heading c.args.block.now) ∙ sym c.starts_with.ensures.value in
    let size = eq-eqb _ _ c.if-block-ne-SIZE.false in
    rw (size, head ∙ c.if-not-starts_with.false, ← part_to_end c.args.block.now 22, ← c.if-not-faultless.ensures)
