-- The loop takes one frame a turn: `Folds`. That the parser is sized is known by its type: `typed_sized`.
use Rattle.std.proofs.Common.{ℕ, List, take, drop, ap, ◌∙◌}
use mir.Val.{bool_byte}
use Rattle.vp8_records.proofs.Typed.{typed_sized}
use Rattle.vp8_sequence.proofs.Folds.{one_is, turn, ended}
use Rattle.vp8_sequence.proofs.parse_frames_in.Goals as goal

pub loop-length-preserved : goal.loop-length-preserved
loop-length-preserved c = let cut = c.split_at.ensures in
    let rest : List ℕ = c.loop-length.rest.now in
    turn c.loop-length.invariant c.loop-length-test.true (cut.front ∙ ap (λ (n : ℕ). take n rest) c.min.ensures)
    (cut.back ∙ ap (λ (n : ℕ). drop n rest) c.min.ensures)
    c.next_mode-mode.ensures.mode c.next_mode-mode.ensures.rest c.parse_in-answer.ensures
    (c.from-accepted.ensures ∙ ap bool_byte c.is_ok.ensures.value ∙ one_is c.parse_in-answer.result.outcome)

pub returns : goal.returns
returns c = ended c.loop-length.invariant c.loop-length-test.false (typed_sized c.args.parser _ c.well_formed.0)
