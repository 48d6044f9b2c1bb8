-- The second stretch goes on where the first ended: `join_over`.
use mathlib.Core.Path.{◌∙◌}
use Rattle.bool_decoder.proofs.Quiet.{left, join_over}
use Rattle.bool_decoder.proofs.BoolDecoder.pass.Goals as goal

pub singles-requires : goal.singles-requires
singles-requires c = left c.fours-at.ensures.quiet c.fours-at.ensures.within c.requires

pub returns : goal.returns
returns c = let p = c.fours-at.ensures in
    let s = c.singles.ensures in
    record { within = s.within; quiet = join_over p.area p.quiet s.quiet; area = s.area ∙ p.area }
