-- A turn takes the next pair of both lists, which is the next listed frame: `Feeds`. What is told leaves the parser alone.
use Rattle.std.proofs.Common.{ap, subst, refl, of_calls, ◌∙◌}
use Rattle.std.proofs.lemmas.Fn.{fronts}
use Rattle.std.proofs.lemmas.Iterator.{zips}
use Rattle.std.proofs.lemmas.Slice.Zip.{either_empty_from_Zip}
use Rattle.std.specs.Iterator.Adapters.{enumerate_source, enumerate_steps}
use Rattle.rfc6386.specs.Call.{call}
use Rattle.vp8_recording.proofs.Feeds.{turn, end}
use Rattle.vp8_recording.proofs.feed.Goals as goal

pub loop-i-preserved : goal.loop-i-preserved
loop-i-preserved g c = let l = c.loop-i in
    let z = subst (λ o. enumerate_steps (zips fronts fronts) l.i-iterator o c.next.new.self) c.in-Some.is c.next.ensures.steps in (
      search of_calls,
      turn l.invariant.1 z.0.0 z.0.1 (c.parse_in-answer.ensures ∙ ap (call _ _) c.frame_at.ensures.0),
    )

pub returns : goal.returns
returns g c = let l = c.loop-i in
    let z = subst (λ o. enumerate_steps (zips fronts fronts) l.i-iterator o c.next.new.self) c.in-None.is c.next.ensures.steps in
    end l.invariant.1 (either_empty_from_Zip (enumerate_source l.i-iterator) (enumerate_source c.next.new.self) _ refl z.0)
