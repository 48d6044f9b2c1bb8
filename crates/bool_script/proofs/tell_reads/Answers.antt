-- The loop is that of `Turns`; where no whole read is left, the end of the line is what is left of it.
use mathlib.Core.Path.{ap, ◌∙◌}
use Rattle.text.specs.Told.{told}
use Rattle.bool_script.proofs.Turns.{gap_after, gap_first, turn, end}
use Rattle.bool_script.proofs.tell_reads.Goals.{then-place-ne0, else-place-ne0}
use Rattle.bool_script.proofs.tell_reads.Goals as goal

pub loop-place-preserved : goal.loop-place-preserved
loop-place-preserved g c =
    let view = told g.B.Buffer.place g.B.AsSlice.items in
    let i = c.loop-place.invariant in
    let s = c.in-Some.ensures.steps in (
      s.0.0 ∙ i.0,
      rw s.2
          (turn _ _ i.1 c.in-Some.read.now s.0.1.0 (s.0.1.1 ∙ i.0) (rw (← s.1) (elim c.if-place-ne0.branch [
            | then-place-ne0 w ↦ gap_after (view c.loop-place.out) c.in-Some.place w.if-place-ne0.true (ap view w.out-is ∙ w.byte.ensures)
            | else-place-ne0 w ↦ gap_first (view c.loop-place.out) c.in-Some.place w.if-place-ne0.false (ap view w.out-is)
          ])) c.new.ensures c.step.ensures.leaves c.step.ensures.told),
    )

pub returns : goal.returns
returns g c =
    let i = c.loop-place.invariant in
    rw c.finish.ensures (end _ _ i.1 (rw i.0 at c.in-None.ensures.steps.0.1.0))
