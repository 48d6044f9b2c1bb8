-- The run is as long as the array, so it is what the array holds: `full` of `Runs`.
use mathlib.Core.Path.{◌∙◌}
use Rattle.vp8_records.proofs.Typed.{typed_sized}
use Rattle.vp8_flat.proofs.Runs.{full}
use Rattle.vp8_flat.proofs.Whole.{how_long}
use Rattle.vp8_flat.proofs.kept.Goals as goal

pub returns : goal.returns
returns c = c.into_buffer.ensures.bytes
    ∙ full _ _ 1126 _ c.new-out.ensures c.put_parser.ensures (how_long c.args.parser (typed_sized c.args.parser _ c.well_formed.0))
