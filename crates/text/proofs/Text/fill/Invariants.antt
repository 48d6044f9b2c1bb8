use Rattle.text.specs.Text.{standing, puts}
use Rattle.text.specs.Told.{told}
use Rattle.text.specs.Template.{filled}
use Rattle.text.proofs.Templates.{Filling}
use Rattle.text.proofs.Text.fill.Given as goal

abbrev pub invariant-loop-b : goal.invariant-loop-b
invariant-loop-b g l =
    let before = told g.B.Buffer.place g.B.AsSlice.items l.initial.self in
    let now = standing (g.B.Buffer.place l.self.buffer) (g.B.AsSlice.items l.self.buffer) l.at in
    Filling (puts before (filled l.template l.numbers)) l.template now l.left l.b-index
