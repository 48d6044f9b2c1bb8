use Prim.Native.Nat.{◌-◌}
use mathlib.Core.Path.{◌≡◌}
use Rattle.vp8_probs.specs.Tables.{coeff_update}
use Rattle.bool_decoder.specs.Window.{window}
use Rattle.bool_decoder.proofs.Each.{Turn}
use Rattle.vp8_fields.proofs.Turns.{flagged}
use Rattle.vp8_fields.proofs.coefficients.parse_token_prob_update.Given as goal

abbrev pub invariant-loop-n : goal.invariant-loop-n
invariant-loop-n l = record {
  turn : Turn window (flagged coeff_update) l.fn.dec.area.now 9 l.fn.dec.window l.fn.coeff_probs.v l.out.v l.local.window l.i;
  area : l.local.area ≡ l.fn.dec.area;
}

abbrev pub decreases-loop-n : goal.decreases-loop-n
decreases-loop-n l = 1056 - l.i
