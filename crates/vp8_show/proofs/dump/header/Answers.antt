-- The pieces one after the other; the numbers of a template are those that the flat header has.
use mathlib.Core.Path.{ap}
use Rattle.text.specs.Template.{filled}
use Rattle.text.proofs.Puts.{then, worded}
use Rattle.vp8_show.specs.Dumped.{shape_text, header_text}
use Rattle.vp8_show.proofs.dump.header.Goals as goal

pub returns : goal.returns
unfolding header_text shape_text
returns g c = then _ _ _ _ _ c.bytes.ensures
    (then _ _ _ _ _
    (then _ _ _ _ _ (worded _ _ _ _ c.fill.ensures (ap (filled _) c.shape.ensures)) c.fill-2.ensures)
    (then _ _ _ _ _ c.quantizer.ensures
    (then _ _ _ _ _ (worded _ _ _ _ c.fill-3.ensures (ap (filled _) c.flags.ensures))
    (then _ _ _ _ _ c.probabilities.ensures (worded _ _ _ _ c.fill-4.ensures (ap (filled _) c.tail.ensures))))))
