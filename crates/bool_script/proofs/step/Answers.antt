-- What the read gave, or its refusal, then the position and the bits past the end are the pieces of its text.
use mathlib.Core.Path.{ap, ◌∙◌}
use Rattle.bool_decoder.specs.declared.bare.Shown.{Shown}
use Rattle.text.specs.Told.{told}
use Rattle.bool_script.proofs.OneRead.{then_refusal, then_place}
use Rattle.bool_script.proofs.step.Goals.{in-Err, in_default}
use Rattle.bool_script.proofs.step.Goals as goal

pub returns-clause-told : goal.returns-clause-told
returns-clause-told g c =
    let view = told g.B.Buffer.place g.B.AsSlice.items in
    then_place _ _ (view c.args.out.now) c.tell_value.ensures.leaves (elim c.match-tell_value.branch [
      | in-Err w ↦ ap view w.out-is
          ∙ then_refusal w.in-Err.ensures.told w.byte.ensures w.decimal.ensures (w.from.ensures ∙ w.number.ensures)
      | in_default w ↦ ap view w.out-is ∙ w.in_default.ensures.told
    ]) (ap (λ (s : Shown). s.position) c.shown-seen.ensures) (ap (λ (s : Shown). s.past) c.shown-seen.ensures) c.fill.ensures
