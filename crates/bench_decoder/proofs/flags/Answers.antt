-- The loop is `Turns` over the table, which has 1,056 entries.
use native.Mathlib.Omega.{arith}
use mathlib.Core.Path.{◌≡◌, ap, ◌∙◌}
use lib.ListN.{length}
use Rattle.vp8_probs.specs.Tables.{coeff_update}
use Rattle.bench_decoder.specs.Flags.{sum_of}
use Rattle.bench_decoder.proofs.Turns.{turn, end, whole}
use Rattle.bench_decoder.proofs.flags.Goals as goal

pub loop-i-preserved : goal.loop-i-preserved
unfolding coeff_update
loop-i-preserved c =
    let lengths : length c.args.table.now ≡ 1056 = ap length c.requires in
    let size = lengths in
    let t = turn c.loop-i.invariant (omega arith) c.read_bit.ensures in
    rw c.mark-sum.ensures t

pub returns : goal.returns
unfolding sum_of coeff_update
returns c =
    let lengths : length c.args.table.now ≡ 1056 = ap length c.requires in
    let size = lengths in
    end c.loop-i.invariant (omega arith) ∙ ap (whole c.args.area.now) c.requires
