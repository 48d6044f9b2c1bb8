-- The block read, the call, the block written: `Handed`.
use mathlib.Core.Path.{ap, ◌∙◌}
use Rattle.vp8_records.specs.declared.Mode.{Mode}
use Rattle.rfc6386.specs.Call.{call}
use Rattle.vp8_state.specs.Handed.{left}
use borrow.Author.Rules.{rules}
use Rattle.vp8_state.proofs.Laid.{Bytes}
use Rattle.vp8_state.proofs.Handed.{steps_refused, steps_called}
use Rattle.vp8_state.proofs.vp8_state_parse.Goals as goal

pub returns-in-Err : goal.returns-in-Err
returns-in-Err c = let b = c.args.block.now in
    ap (λ n. left n b) c.number-in-Err.ensures ∙ steps_refused b _ c.record_in.ensures c.in-Err.is

pub returns-in-Ok : goal.returns-in-Ok
returns-in-Ok c = let a = c.args in
    let said = c.parse_in-parsed.ensures ∙ ap (λ (md : Mode). call md c.in-Ok.parser a.frame.now) c.from.ensures in
    let bytes : Bytes a.block.now = λ i. search rules in
    steps_called a.block.now _ c.record_in.ensures bytes c.in-Ok.is c.parse_in-parsed.result said _ _
    c.write_block.ensures _ c.number.ensures
