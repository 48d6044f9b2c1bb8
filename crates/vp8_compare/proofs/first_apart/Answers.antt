-- The loop is that of `Parts`.
use mathlib.Core.Logic.{inl, inr}
use mathlib.Core.Path.{ap, ◌∙◌}
use Rattle.std.proofs.Common.{⊎_elim}
use Rattle.vp8_compare.proofs.Parts.{begin, differs, agrees, none}
use Rattle.vp8_compare.proofs.first_apart.Goals as goal

pub loop-at-init : goal.loop-at-init
loop-at-init g c = let is = c.into_iter-at-iterator.ensures.into_iter_gives in
    let zip = c.zip-at-items.ensures in
    begin c.args.b.now c.requires (ap (λ z. z.a.start) is ∙ ap (λ z. z.start) zip.first) (ap (λ z. z.b.rest.now) is ∙ zip.second.0)

pub returns-then-ne : goal.returns-then-ne
returns-then-ne g c = let s = c.in-Some.ensures.steps in
    differs g.met.T.PartialEq.laws _ c.get.result c.loop-at.invariant s.0 s.1 c.get.ensures.lookup.0 c.get.ensures.lookup.1 c.if-ne.ensures

pub loop-at-preserved : goal.loop-at-preserved
loop-at-preserved g c = let s = c.in-Some.ensures.steps in
    agrees g.met.T.PartialEq.laws _ c.get.result c.loop-at.invariant s.0 s.1 c.get.ensures.lookup.0 c.get.ensures.lookup.1 c.if-ne.ensures

pub returns : goal.returns
returns g c = ⊎_elim (λ h. none (inl h.1.0) c.loop-at.invariant) (λ h. none (inr h.1.0) c.loop-at.invariant) c.in-None.ensures.steps
