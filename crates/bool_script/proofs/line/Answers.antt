-- Either engine's fresh decoder stands for the definition's start, from which the line goes.
use mathlib.Core.Path.{ap, ◌∙◌}
use Rattle.text.specs.Text.{puts}
use Rattle.text.specs.Told.{told}
use Rattle.bool_decoder.specs.Model as W
use Rattle.bool_slow.specs.Slow as S
use Rattle.bool_script.proofs.One.{window_begins, slow_begins}
use Rattle.bool_script.proofs.Turns.{from_fresh}
use Rattle.bool_script.proofs.line.Goals as goal

pub returns-in-Window : goal.returns-in-Window
returns-in-Window g c = c.tell_reads.ensures ∙ ap (puts (told g.B.Buffer.place g.B.AsSlice.items c.args.out.now)) (from_fresh (λ d. d.area) W.state_of _ (window_begins c.args.engine _ c.fresh.ensures c.in-Window.is))

pub returns-in-Slow : goal.returns-in-Slow
returns-in-Slow g c =
    c.tell_reads-in-Slow.ensures ∙ ap (puts (told g.B.Buffer.place g.B.AsSlice.items c.args.out.now)) (from_fresh S.area_of S.state_of _ (slow_begins c.args.engine _ c.fresh.ensures c.in-Slow.is))
