-- The three stages, one after the other, are the definition's header tree: binds are regrouped, field by field.
use mathlib.Core.Path.{◌≡◌, ◌∙◌}
use mathlib.Core.Bool.{Bool, false, not}
use Rattle.vp8_records.specs.declared.Mode.{Mode}
use Rattle.rfc6386.specs.Reads.{ret, ◌>>=◌, flag, when, lit}
use Rattle.rfc6386.specs.Coded.{segments, deltas, quant, refresh, coefficients, inter, no_inter, header}
use Rattle.rfc6386.proofs.Trees.{assoc, onward}
use Rattle.vp8_header.specs.Stages.{first, second, third, whole_of}

pub stages : (md : Mode) (key : Bool)
    → first md key >>= (λ a. second key >>= (λ b. third key >>= (λ t. ret (whole_of a b t)))) ≡ header md key
unfolding header first second third ◌>>=◌
stages md key =
    assoc (when key flag false) _ _ ∙ onward (when key flag false) (λ cs.
    assoc (when key flag false) _ _ ∙ onward (when key flag false) (λ ct.
    assoc (segments md) _ _ ∙ onward (segments md) (λ sg.
    assoc flag _ _ ∙ onward flag (λ ft.
    assoc (lit 6) _ _ ∙ onward (lit 6) (λ ll.
    assoc (lit 3) _ _ ∙ onward (lit 3) (λ sh.
    assoc deltas _ _ ∙ onward deltas (λ ds.
    assoc (lit 2) _ _ ∙ onward (lit 2) (λ lp.
    assoc quant _ _ ∙ onward quant (λ q.
    assoc (refresh key) _ _ ∙ onward (refresh key) (λ rf.
    assoc coefficients _ _ ∙ onward coefficients (λ co.
    assoc flag _ _ ∙ onward flag (λ sk.
    assoc (when sk (lit 8) 0) _ _ ∙ onward (when sk (lit 8) 0) (λ sp.
    assoc (when (not key) inter no_inter) _ _)))))))))))))
