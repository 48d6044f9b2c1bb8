use lib.ListN.{take}
use Rattle.text.specs.Told.{Puts}
use Rattle.vp8_records.specs.Layout.{joined, flat_mv_context}
use Rattle.vp8_flat.proofs.put_motion.Given as goal

abbrev pub invariant-loop-context : goal.invariant-loop-context
invariant-loop-context g l =
    Puts g.B.Buffer.place g.B.AsSlice.items l.initial.out (joined flat_mv_context (take l.context-index l.context-items)) l.out
