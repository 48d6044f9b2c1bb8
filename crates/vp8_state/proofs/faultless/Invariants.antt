use Rattle.vp8_state.specs.Block.{allows, faultless}
use Rattle.vp8_state.proofs.Agree.{Agreed}
use Rattle.vp8_state.proofs.faultless.Given as goal

abbrev pub invariant-loop-kind : goal.invariant-loop-kind
invariant-loop-kind l = Agreed allows l.kind-iterator.a.rest.now l.kind-iterator.b.rest.now (faultless l.bytes)
