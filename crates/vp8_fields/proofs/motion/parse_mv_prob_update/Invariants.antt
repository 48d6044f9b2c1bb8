use Prim.Native.Nat.{◌+◌, ◌*◌}
use mathlib.Core.Path.{◌≡◌}
use lib.ListN.{drop}
use Rattle.bool_decoder.proofs.Each.{Turns}
use Rattle.vp8_probs.specs.Tables.{mv_update}
use Rattle.vp8_records.specs.Layout.{flat_mv_context, laid_mv_context}
use Rattle.vp8_fields.specs.Rows.{coded_mv, row_over}
use Rattle.vp8_fields.proofs.motion.parse_mv_prob_update.Given as goal

abbrev pub invariant-loop-i : goal.invariant-loop-i
invariant-loop-i l = let at = l.i-iterator.count in
    (l.i-iterator.iter.size ≡ 19) × (l.i-iterator.iter.rest.now ≡ drop (0 + at * 19) mv_update)
    × Turns (λ i. row_over flat_mv_context laid_mv_context 19 coded_mv mv_update (0 + i * 19)) 152 l.fn.dec l.fn.mv_probs.v l.out.v l.dec at
