-- The first word, then the look with the dump's words: together the definition, by its cases.
use Rattle.text.proofs.Puts.{then, worded}
use Rattle.vp8_show.proofs.Laws.{dump_look}
use Rattle.vp8_show.proofs.dump.look.Goals as goal

pub returns : goal.returns
returns g c = worded _ _ _ _ (then _ _ _ _ _ c.bytes.ensures c.looked.ensures) (dump_look c.args.peeked)
