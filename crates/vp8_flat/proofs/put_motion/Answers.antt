-- After i turns the runs of the first i components are put: `Runs`.
use borrow.Author.Rules.{rules}
use Rattle.vp8_records.specs.Layout.{flat_mv_context}
use Rattle.vp8_records.proofs.Arrays.{length_mapped}
use Rattle.vp8_flat.proofs.Runs.{joined_nil, joined_turn}
use Rattle.vp8_flat.proofs.put_motion.Goals as goal

pub loop-context-init : goal.loop-context-init
loop-context-init g c = joined_nil _ _

pub loop-context-preserved : goal.loop-context-preserved
loop-context-preserved g c =
    joined_turn flat_mv_context _ _ _ _ _ _ (search (rules, length_mapped)) c.loop-context.invariant c.bytes.ensures
