use mathlib.Core.Path.{◌≡◌}
use lib.ListN.{drop}
use Rattle.text.specs.Text.{standing, puts}
use Rattle.text.specs.Told.{told}
use Rattle.text.specs.Lines.{numbered_from, numbered}
use Rattle.text.proofs.Text.number_lines.Given as goal

abbrev pub invariant-loop-b : goal.invariant-loop-b
invariant-loop-b g l =
    let before = told g.B.Buffer.place g.B.AsSlice.items l.initial.self in
    let now = standing (g.B.Buffer.place l.self.buffer) (g.B.AsSlice.items l.self.buffer) l.at in
    puts now (numbered_from l.n l.begins (drop l.b-index l.lines)) ≡ puts before (numbered l.n l.lines)
