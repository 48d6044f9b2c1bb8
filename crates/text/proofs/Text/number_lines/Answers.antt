-- At each turn, what is put and what is left of the lines make the whole: `number_turn` of `Lined`.
use mathlib.Core.Path.{ap, ◌∙◌}
use Rattle.text.proofs.Puts.{still}
use Rattle.text.proofs.Lined.{head_put, head_none, number_turn, number_end}
use Rattle.text.proofs.Text.number_lines.Goals.{then-begins, else-begins}
use Rattle.text.proofs.Text.number_lines.Goals as goal

pub loop-b-preserved : goal.loop-b-preserved
loop-b-preserved g c =
    number_turn _ _ _ _ _ _ _ _ c.loop-b-test.true
    (elim c.if-begins.branch [
      | then-begins w ↦
          head_put _ _ _ _ _ w.if-begins.true w.digits_at-at.ensures
          (still g.B.Buffer.place g.B.AsSlice.items (ap (λ s. s.buffer) w.self-is) w.at-is ∙ w.put_at-at.ensures)
      | else-begins w ↦ still g.B.Buffer.place g.B.AsSlice.items (ap (λ s. s.buffer) w.self-is) w.at-is ∙ head_none _ c.args.n _ w.if-begins.false
    ])
    c.put_at-at-in-loop-b.ensures c.loop-b.invariant

pub returns : goal.returns
returns g c = number_end _ _ _ _ _ _ c.loop-b-test.false c.loop-b.invariant
