-- At each turn, what is put and what is left of the template make the whole: `Filling` of `Templates`.
use native.Mathlib.Omega.{arith}
use mathlib.Core.Path.{refl, ap, ◌∙◌}
use lib.ListN.{drop, length-drop}
use lib.Seq.{take_all}
use Rattle.text.proofs.Puts.{still}
use Rattle.text.proofs.Templates.{turn_number, turn_none, turn_other, end}
use Rattle.text.proofs.Text.fill.Goals.{then-b-ne124, else-b-ne124+in_default, else-b-ne124+in-len1-up}
use Rattle.text.proofs.Text.fill.Goals as goal

pub loop-b-init : goal.loop-b-init
loop-b-init g c = record { whole = refl }

pub loop-b-preserved : goal.loop-b-preserved
loop-b-preserved g c =
    let inv = c.loop-b.invariant in
    let more = c.loop-b-test.true in
    elim c.if-b-ne124.branch [
      | then-b-ne124 w ↦
          turn_other inv more w.if-b-ne124.true (still g.B.Buffer.place g.B.AsSlice.items (ap (λ s. s.buffer) w.self-is) w.at-is ∙ w.put_at-at.ensures)
          (ap (λ s. s.now) w.left-is)
      | else-b-ne124+in_default w ↦
          turn_none inv more w.if-b-ne124.false w.in_default.len_below (still g.B.Buffer.place g.B.AsSlice.items (ap (λ s. s.buffer) w.self-is) w.at-is)
          (ap (λ s. s.now) w.left-is)
      | else-b-ne124+in-len1-up w ↦
          turn_number inv more w.if-b-ne124.false w.in-len1-up.len_at_least w.from.ensures
          (still g.B.Buffer.place g.B.AsSlice.items (ap (λ s. s.buffer) w.self-is) w.at-is ∙ w.digits_at-at.ensures)
          (ap (λ s. s.now) w.left-is ∙ take_all _ (drop 1 c.loop-b.left.now) (omega (arith, length-drop 1 c.loop-b.left.now)))
    ]

pub returns : goal.returns
returns g c = end c.loop-b.invariant c.loop-b-test.false
