-- The pieces one after the other, and together the kept numbers: `Whole`.
use Rattle.text.proofs.Puts.{then, worded}
use Rattle.vp8_flat.proofs.Whole.{kept_is}
use Rattle.vp8_flat.proofs.put_parser.Goals as goal

pub returns : goal.returns
returns g c = worded _ _ _ _
    (then _ _ _ _ _ c.put_segmentation.ensures
    (then _ _ _ _ _ c.put_adjustments.ensures
    (then _ _ _ _ _ c.bytes.ensures
    (then _ _ _ _ _ c.put_motion.ensures c.put_modes.ensures))))
    (kept_is c.args.parser)
