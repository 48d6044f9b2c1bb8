-- Turns one after another, each a call of a closure that answers whether to go on or fails.
use Rattle.std.specs.Prelude.{ℕ, zero, suc, ◌≡◌, ◌≤◌, ◌+◌, ◌^◌, ◌⊎◌, Result, Ok, Err}
use Rattle.std.specs.declared.ops.ControlFlow.{ControlFlow}
use Rattle.std.specs.declared.ops.ControlFlow.TheVariants.{Continue, Break}

-- a turn takes f to g, with this answer
module _ {F E : Type 0} (step : F → Result (ControlFlow Unit Unit) E → F → Type 0) where
  -- n turns take f to g, and each says to go on
  abbrev pub Goes : ℕ → F → F → Type 0
  Goes zero f g = f ≡ g
  Goes (suc n) f g = (h : F) × Goes n f h × step h (Ok (Continue tt)) g

  -- after n turns, the next one from f on says to stop or fails, or there are as many as there may be
  abbrev pub Ends : ℕ → F → Result Unit E → Type 0
  Ends n f (Ok _) = ((g : F) × step f (Ok (Break tt)) g) ⊎ (2 ^ 64 ≤ n + 1)
  Ends n f (Err e) = (g : F) × step f (Err e) g

  -- turns from f on, which end so
  abbrev pub Turned : F → Result Unit E → Type 0
  Turned f r = (n : ℕ) × (g : F) × Goes n f g × Ends n g r
