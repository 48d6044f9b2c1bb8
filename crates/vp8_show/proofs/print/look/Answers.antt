-- The line of a look, then its end.
use Rattle.text.proofs.Puts.{then_one}
use Rattle.vp8_show.specs.Printed.{printed_look}
use Rattle.vp8_show.proofs.print.look.Goals as goal

pub returns : goal.returns
unfolding printed_look
returns g c = then_one _ _ _ _ _ c.looked.ensures c.byte.ensures
