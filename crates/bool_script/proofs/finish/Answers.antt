-- A bar, and the numbers that the decoder shows.
use Prim.Native.Nat.{ℕ}
use mathlib.Core.Path.{◌≡◌}
use mathlib.Core.List.{[], ◌∷◌, ◌++◌}
use Rattle.rfc6386.specs.Decoder.{State}
use Rattle.bool_decoder.specs.Bare.{shown_of}
use Rattle.bool_decoder.specs.declared.bare.Shown.{Shown}
use Rattle.text.specs.Template.{ascii, filled}
use Rattle.text.proofs.Puts.{then, worded}
use Rattle.bool_script.specs.Line.{end_text}
use Rattle.bool_script.proofs.finish.Goals as goal

end_text_lem : (l : ℕ) (s : State) (n : Shown) {r v c : ℕ} → n ≡ shown_of l s → r ≡ n.range → v ≡ n.value → c ≡ n.count
    → ascii " |" ++ filled (ascii " | | | | |") (r ∷ v ∷ c ∷ n.position ∷ n.past ∷ []) ≡ end_text l s
unfolding end_text
end_text_lem l s n e r v c = rw (r, v, c, e)

pub returns : goal.returns
returns g c = worded _ _ _ _ (then _ _ _ _ _ c.bytes.ensures c.fill.ensures)
    (end_text_lem _ _ _ c.shown-seen.ensures c.from.ensures c.from-2.ensures c.from-3.ensures)
