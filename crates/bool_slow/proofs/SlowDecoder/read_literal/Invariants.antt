use Rattle.bool_decoder.proofs.Literal.{Reading}
use Rattle.bool_slow.specs.Slow.{over}
use Rattle.bool_slow.proofs.SlowDecoder.read_literal.Given as goal

abbrev pub invariant-loop : goal.invariant-loop
invariant-loop l = Reading (over l.fn.self.area) l.fn.self.area.now l.num_bits l.fn.self l.value l.self l.counter
