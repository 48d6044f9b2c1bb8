-- A call on a record without fault leaves one without fault: what a header writes is bounded by its widths (`header_bounded`), a reset
-- writes zeros, and a clearing none of these numbers.
use mathlib.Core.Option.{Option, none, some}
use mathlib.Core.List.{List, [], ◌∷◌}
use lib.Dec.{lit≤}
use lib.IntN.{pos}
use Prim.Native.Nat.{ℕ}
use Rattle.vp8_records.specs.declared.Parser.{Parser}
use Rattle.vp8_records.specs.Shape.{Every}
use Rattle.vp8_records.specs.Start.{fresh}
use Rattle.rfc6386.specs.Runs.{over}
use Rattle.rfc6386.specs.Coded.{Coded}
use Rattle.rfc6386.specs.Holds.{Within, Perhaps, Bounded}
use Rattle.rfc6386.specs.Call.{Asked, segmented, adjusted, apply, cleared, called, after}
use Rattle.rfc6386.proofs.Bounds.{header_bounded}
use Rattle.rfc6386_history.specs.Refusals.{key_of, coded}
use Rattle.rfc6386_history.specs.Sound.{Sound}
use Rattle.rfc6386_history.proofs.Writes.{sized_fresh, sized_apply, sized_cleared}
use Rattle.rfc6386_history.proofs.Step.{call_keeps}

over_is : {A : Type 0} (P : A → Type 0) (us : List (Option A)) (xs : List A) → Every (Perhaps P) us → Every P xs → Every P (over us xs)
unfolding over
over_is P [] xs h g = g
over_is P (u ∷ us) [] h g = tt
over_is P (none ∷ us) (x ∷ xs) h g = (g.0, over_is P us xs h.1 g.1)
over_is P (some y ∷ us) (x ∷ xs) h g = (h.0, over_is P us xs h.1 g.1)

sound_apply : (c : Coded) (p : Parser) → Bounded c → Sound p → Sound (apply c p)
unfolding apply segmented adjusted
sound_apply c p h g = record {
  sized = sized_apply c p g.sized;
  quantizers = over_is (Within 127) c.segments.quantizers _ h.quantizers g.quantizers;
  levels = over_is (Within 63) c.segments.levels _ h.levels g.levels;
  frames = over_is (Within 63) c.deltas.frames _ h.frames g.frames;
  modes = over_is (Within 63) c.deltas.modes _ h.modes g.modes;
}

pub sound_fresh : Sound fresh
unfolding fresh
sound_fresh = record {
  sized = sized_fresh;
  quantizers = zeros 127 (lit≤ tt);
  levels = zeros 63 (lit≤ tt);
  frames = zeros 63 (lit≤ tt);
  modes = zeros 63 (lit≤ tt);
}
  where
    zeros : (n : ℕ) → Within n (pos 0) → Every (Within n) (pos 0 ∷ pos 0 ∷ pos 0 ∷ pos 0 ∷ [])
    zeros n z = (z, (z, (z, (z, tt))))

sound_cleared : (p : Parser) → Sound p → Sound (cleared p)
unfolding cleared
sound_cleared p g = record {
  sized = sized_cleared p g.sized;
  quantizers = g.quantizers;
  levels = g.levels;
  frames = g.frames;
  modes = g.modes;
}

-- a call leaves no fault where there was none
pub sound_call : (p : Parser) (x : Asked) → Sound p → Sound (called p x).parser
unfolding coded
sound_call =
    call_keeps Sound (λ k. sound_fresh) sound_cleared (λ x p.
    sound_apply (coded x.mode (key_of x.frame) x.frame) p (header_bounded x.mode (key_of x.frame) _ _))

pub sound_after : (p : Parser) (xs : List Asked) → Sound p → Sound (after p xs)
unfolding after
sound_after p [] s = s
sound_after p (x ∷ xs) s = sound_after (called p x).parser xs (sound_call p x s)
