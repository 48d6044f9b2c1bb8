-- So many turns as were counted went on.
use Rattle.lines.specs.Turns.{Goes}
use Rattle.lines.proofs.run.turns.Given as goal

abbrev pub invariant-loop : goal.invariant-loop
invariant-loop g l = goal.F-IsAlwaysCallable g l.turn × Goes (goal.F-step g) l.counter l.initial.turn l.turn
