-- Any two decoders that the contract of `fresh` admits are equal, by cases on the engine, and for each by its own law; and what it says of
-- the decoder of either engine.
use Prim.Native.Nat.{ℕ}
use mathlib.Core.Path.{◌≡◌, ap}
use mathlib.Core.List.{List}
use denote.Ref.{Bor}
use Rattle.bool_decoder.specs.Model as Model
use Rattle.bool_decoder.specs.declared.BoolDecoder.{BoolDecoder}
use Rattle.bool_decoder.proofs.Same as W
use Rattle.bool_slow.specs.Slow as Hand
use Rattle.bool_slow.specs.declared.SlowDecoder.{SlowDecoder}
use Rattle.bool_slow.proofs.Same as S
use Rattle.bool_script.specs.Engines.{Begins}
use Rattle.bool_script.specs.declared.Engine.{Engine}
use Rattle.bool_script.specs.declared.Engine.TheVariants as E
use Rattle.bool_script.specs.declared.engines.Decoder.{Decoder}
use Rattle.bool_script.specs.declared.engines.Decoder.TheVariants.{Window, Slow}

pub one_fresh : (e : Engine) (area : Bor (List ℕ)) (d c : Decoder) → Begins e area d → Begins e area c → d ≡ c
one_fresh E.Window area (Window d) (Window c) p q = ap Window (W.same_fresh p q)
one_fresh E.Window area (Window d) (Slow c) p q = absurd q
one_fresh E.Window area (Slow d) c p q = absurd p
one_fresh E.Slow area (Window d) c p q = absurd p
one_fresh E.Slow area (Slow d) (Window c) p q = absurd q
one_fresh E.Slow area (Slow d) (Slow c) p q = ap Slow (S.same_fresh p q)

of_window : (e : Engine) (area : Bor (List ℕ)) (w : BoolDecoder) → Begins e area (Window w) → Model.Fresh area w
of_window E.Window area w p = p
of_window E.Slow area w p = absurd p

of_slow : (e : Engine) (area : Bor (List ℕ)) (s : SlowDecoder) → Begins e area (Slow s) → Hand.Fresh area s
of_slow E.Window area s p = absurd p
of_slow E.Slow area s p = p

pub window_begins : (e : Engine) (area : Bor (List ℕ)) {d : Decoder} {w : BoolDecoder} → Begins e area d → d ≡ Window w → Model.Fresh area w
window_begins e area p q = of_window e area _ (rw q at p)

pub slow_begins : (e : Engine) (area : Bor (List ℕ)) {d : Decoder} {s : SlowDecoder} → Begins e area d → d ≡ Slow s → Hand.Fresh area s
slow_begins e area p q = of_slow e area _ (rw q at p)
