-- The lines to a text of their own, and from there with the number in front of each: `numbered_lines` of `Laws`.
use Rattle.vp8_show.proofs.Laws.{numbered_lines}
use Rattle.vp8_show.proofs.print.numbered.Goals as goal

pub returns : goal.returns
returns g c = numbered_lines _ _ _ _ _ _ _ c.new-lines.ensures c.answer.ensures c.as_bytes.ensures c.number_lines.ensures
