-- One turn more that says to go on; where the count is at its end, so is their number.
use native.Mathlib.Omega.{arith}
use Rattle.std.proofs.Common.{◌∷◌, ◌≡◌, refl, sym, ap, ◌∙◌, add-one, false, inr, Ok, Continue, Break}
use Rattle.std.specs.Option.{is_some}
use Rattle.std.specs.ControlFlow.{break_value}
use Rattle.std.specs.declared.ops.ControlFlow.{ControlFlow}
use Rattle.lines.proofs.run.turns.Goals as goal

goes_on : (s : ControlFlow Unit Unit) → false ≡ is_some (break_value s) → s ≡ Continue tt
goes_on (Continue tt) e = refl
goes_on (Break tt) e = absurd (cc)

pub loop-preserved : goal.loop-preserved
loop-preserved g c =
    let e : c.turn.result ≡ Ok (Continue tt) = c.in_ok-turn.was ∙ ap Ok (goes_on _ (sym c.if-is_break.false ∙ c.is_break.ensures)) in (
      record { at = λ xs. (c.loop.invariant.0.at (tt ∷ xs)).1 _ _ c.turn.ensures },
      rw add-one (c.loop.turn, c.loop.invariant.1, rw e at c.turn.ensures),
    )

pub returns : goal.returns
returns g c = (c.loop.counter, c.loop.turn, c.loop.invariant.1, inr (omega arith))
