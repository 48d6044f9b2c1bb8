-- What the walk listed is fed.
use mathlib.Core.Path.{ap, ◌∙◌}
use mathlib.Core.List.{List}
use Rattle.vp8_records.proofs.Typed.{typed_sized}
use Rattle.rfc6386.specs.Call.{after}
use Rattle.ivf.specs.Walk.{Place, bytes_of}
use Rattle.ivf.proofs.Fills.{named}
use Rattle.vp8_recording.specs.Plays.{all_in}
use Rattle.vp8_recording.proofs.play_each.Goals as goal

pub returns : goal.returns
returns g c = let t = c.walk-walked.ensures in
    let a = c.args in
    record {
      listed = t;
      parser = c.feed-state.ensures ∙ ap (λ (xs : List Place). after a.parser (all_in a.mode (bytes_of a.file.now xs))) (named t);
      sized = typed_sized a.parser _ c.well_formed.0;
    }
