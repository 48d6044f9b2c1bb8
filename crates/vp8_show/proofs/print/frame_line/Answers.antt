-- The template, with the nine numbers that the definition has.
use mathlib.Core.Path.{ap}
use borrow.Author.Rules.{rules}
use Rattle.text.specs.Template.{filled}
use Rattle.text.proofs.Puts.{worded}
use Rattle.vp8_show.specs.Printed.{frame_line}
use Rattle.vp8_show.proofs.print.frame_line.Goals as goal

pub returns : goal.returns
unfolding frame_line
returns g c = worded _ _ _ _ c.fill.ensures (ap (filled _) (search rules))
