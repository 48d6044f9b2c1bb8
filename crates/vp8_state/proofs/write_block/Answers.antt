-- The tests in their order; then heading and sections are the block: `Stores`.
use mathlib.Core.Path.{◌≡◌, sym, ◌∙◌}
use lib.ListN.{length}
use borrow.Author.Rules.{rules}
use Rattle.vp8_state.proofs.Stores.{refused_size, refused_fault, was_written}
use Rattle.vp8_state.proofs.write_block.Goals as goal

pub returns-then-block-ne-SIZE : goal.returns-then-block-ne-SIZE
returns-then-block-ne-SIZE c = refused_size c.args.parser _ c.if-block-ne-SIZE.true

pub returns-then-not-faultless : goal.returns-then-not-faultless
returns-then-not-faultless c = let first = c.front-first in
    let n : length first.result ≡ 25 = search rules in
    refused_fault c.args.parser _ first.result first.ensures
    c.if-block-ne-SIZE.false n
    (sym c.faultless.ensures ∙ c.if-not-faultless.true)

pub returns : goal.returns
returns c = let first = c.front-first in
    let n : length first.result ≡ 25 = search rules in
    was_written c.args.parser _ first.result first.ensures
    c.if-block-ne-SIZE.false n
    (sym c.faultless.ensures ∙ c.if-not-faultless.false) c.put_sections.ensures
