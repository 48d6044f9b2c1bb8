-- The run is as long as the array, so it is what the array holds: `full` of `Runs`.
use mathlib.Core.Path.{◌∙◌}
use Rattle.vp8_records.proofs.Typed as Typed
use Rattle.vp8_records.proofs.Parts.{mv}
use Rattle.vp8_flat.proofs.Runs.{full}
use Rattle.vp8_flat.proofs.motion.Goals as goal

pub returns : goal.returns
returns c = c.into_buffer.ensures.bytes
    ∙ full _ _ 38 _ c.new-out.ensures c.put_motion.ensures (mv.size c.args.m (Typed.mv c.args.m _ c.well_formed.0))
