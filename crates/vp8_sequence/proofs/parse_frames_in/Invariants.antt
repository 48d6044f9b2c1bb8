use Rattle.vp8_sequence.proofs.Folds.{Turn}
use Rattle.vp8_sequence.proofs.parse_frames_in.Given as goal

abbrev pub invariant-loop-length : goal.invariant-loop-length
invariant-loop-length l = Turn l.initial.state l.modes l.lengths l.bytes l.state l.accepted l.left l.rest l.length-index
