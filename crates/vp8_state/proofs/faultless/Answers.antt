-- The tests that are left give what all of them give: `Agree`.
use mathlib.Core.Logic.{inl, inr}
use mathlib.Core.Path.{ap, sym, ◌∙◌}
use Rattle.std.proofs.Common.{⊎_elim}
use Rattle.vp8_state.specs.Block.{kinds}
use Rattle.vp8_state.proofs.Agree.{begin, turn, fails, ends}
use Rattle.vp8_state.proofs.faultless.Goals as goal

pub loop-kind-init : goal.loop-kind-init
unfolding kinds
loop-kind-init c = let is = c.into_iter-kind-iterator.ensures.into_iter_gives in
    let zip = c.zip-kind-items.ensures in
    begin (ap (λ z. z.a.rest.now) is ∙ ap (λ z. z.rest.now) zip.first ∙ c.iter.ensures.rest)
    (ap (λ z. z.b.rest.now) is ∙ zip.second.0) c.requires

pub returns-then-not-allows : goal.returns-then-not-allows
returns-then-not-allows c = let s = c.in-Some.ensures.steps in
    fails c.loop-kind.invariant s.0 s.1 (sym c.allows.ensures ∙ c.if-not-allows.true)

pub loop-kind-preserved : goal.loop-kind-preserved
loop-kind-preserved c = let s = c.in-Some.ensures.steps in
    turn c.loop-kind.invariant s.0 s.1 (sym c.allows.ensures ∙ c.if-not-allows.false)

pub returns : goal.returns
returns c = ⊎_elim (λ h. ends (inl h.1.0) c.loop-kind.invariant) (λ h. ends (inr h.1.0) c.loop-kind.invariant) c.in-None.ensures.steps
