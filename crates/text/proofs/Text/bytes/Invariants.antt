use mathlib.Core.Path.{◌≡◌}
use lib.ListN.{take}
use Rattle.text.specs.Text.{standing, puts}
use Rattle.text.specs.Told.{told}
use Rattle.text.proofs.Text.bytes.Given as goal

abbrev pub invariant-loop-b : goal.invariant-loop-b
invariant-loop-b g l =
    standing (g.B.Buffer.place l.self.buffer) (g.B.AsSlice.items l.self.buffer) l.at
    ≡ puts (told g.B.Buffer.place g.B.AsSlice.items l.initial.self) (take l.b-index l.src)
