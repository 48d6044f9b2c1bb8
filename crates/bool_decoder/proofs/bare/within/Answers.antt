-- What the limits' test, the call and the answer ensure, side by side.
use mathlib.Core.Path.{refl, sym}
use Rattle.bool_decoder.proofs.bare.within.Goals as goal

pub returns : goal.returns
returns g c = (
  rw (← c.size.ensures, ← c.bools.ensures) (sym c.in_ok-check_limits.ensures),
  rw c.with_past.ensures.value (record { shown = _; shows = refl; left = _; met = c.take-value.ensures; leaves = refl }),
  c.with_past.ensures.past,
)
