-- The fresh decoder of an engine over an area: of that engine, and at the area's start.
use Rattle.std.specs.Prelude.{ℕ, List}
use Rattle.std.specs.Borrow.{Bor}
use Rattle.bool_decoder.specs.Model as W
use Rattle.bool_slow.specs.Slow as S
use Rattle.bool_script.specs.declared.Engine.{Engine}
use Rattle.bool_script.specs.declared.Engine.TheVariants as E
use Rattle.bool_script.specs.declared.engines.Decoder.{Decoder}
use Rattle.bool_script.specs.declared.engines.Decoder.TheVariants.{Window, Slow}

abbrev pub Begins : Engine → Bor (List ℕ) → Decoder → Type 0
Begins E.Window area (Window d) = W.Fresh area d
Begins E.Window area (Slow d) = ⊥
Begins E.Slow area (Window d) = ⊥
Begins E.Slow area (Slow d) = S.Fresh area d
