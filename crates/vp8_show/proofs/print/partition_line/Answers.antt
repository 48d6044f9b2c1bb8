-- Three numbers, each after its word, and the end of the line: the template, by computation.
use Rattle.text.proofs.Puts.{then, then_one, worded}
use Rattle.vp8_show.proofs.Laws.{line_is}
use Rattle.vp8_show.proofs.print.partition_line.Goals as goal

pub returns : goal.returns
returns g c = worded _ _ _ _
    (then _ _ _ _ _ c.named.ensures (then _ _ _ _ _ c.named-2.ensures (then_one _ _ _ _ _ c.named-3.ensures c.byte.ensures)))
    (line_is _ _ _)
