-- The literal, then the sign; the value is small since the magnitude is.
use mathlib.Core.Path.{◌∙◌}
use Prim.Native.Nat.{◌^◌}
use mir.Syntax.{w32}
use mir.Facts.{to_z-of_z}
use Rattle.rfc6386.specs.Reads.{flag, sint}
use Rattle.bool_decoder.proofs.Literal.{mag_signed}
use Rattle.bool_slow.proofs.Steps.{then, done}
use Rattle.bool_slow.proofs.SlowDecoder.read_signed.Goals as goal

pub returns : goal.returns
unfolding sint flag
returns c = let m = c.read_literal-magnitude in
    let b = c.read_bool-sign in
    let num_bits = c.args.num_bits in
    let z = to_z-of_z {w = w32} {z = c.signed_of.result} (record { sfits = c.signed_of.type_inv }) ∙ c.signed_of.ensures in
    record {
      ran = rw z (then _ m.ensures.ran (then _ b.ensures done));
      small = rw z (mag_signed b.result m.result (2 ^ num_bits) m.ensures.small);
    }
