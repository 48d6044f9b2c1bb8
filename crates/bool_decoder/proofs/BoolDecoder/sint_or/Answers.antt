-- A flag, then the read that it picks. A magnitude of at most 7 bools and its sign fit an i8.
use native.Mathlib.Omega.{arith}
use mir.Facts.{to_z-of_z}
use mir.Syntax.{w8}
use Rattle.rfc6386.specs.Reads.{or_else}
use Rattle.bool_decoder.proofs.Chain.{on, upto}
use Rattle.bool_decoder.proofs.Steps.{then, off}
use Rattle.bool_decoder.proofs.Signs.{through}
use Rattle.bool_decoder.proofs.BoolDecoder.sint_or.Goals as goal

pub returns-then-read_flag : goal.returns-then-read_flag
unfolding or_else
returns-then-read_flag c = let s = c.read_signed in
    rw (through _ s.result c.requires.0 s.ensures.small)
    (upto (omega arith) (then _ c.read_flag.ensures (on _ c.if-read_flag.true s.ensures.ran)))

pub returns-else-read_flag : goal.returns-else-read_flag
unfolding or_else
returns-else-read_flag c =
    rw (to_z-of_z {w = w8} {z = c.args.other} c.ranges.other)
    (upto (omega arith) (then _ c.read_flag.ensures (off _ c.if-read_flag.false)))
