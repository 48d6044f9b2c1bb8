use Rattle.bool_decoder.specs.Model.{over}
use Rattle.bool_decoder.proofs.Literal.{Reading}
use Rattle.bool_decoder.proofs.BoolDecoder.read_literal.Given as goal

abbrev pub invariant-loop : goal.invariant-loop
invariant-loop l = Reading (over l.fn.self.area) l.fn.self.area.now l.nbits l.fn.self l.value l.local l.counter
