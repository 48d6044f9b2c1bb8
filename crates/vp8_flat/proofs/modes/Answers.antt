-- The run is as long as the array, so it is what the array holds: `full` of `Runs`.
use native.Mathlib.Omega.{arith}
use mathlib.Core.Path.{◌≡◌, ◌∙◌}
use lib.ListN.{length, length-append}
use borrow.Author.Rules.{rules}
use Rattle.vp8_flat.proofs.Runs.{full}
use Rattle.vp8_flat.proofs.modes.Goals as goal

pub returns : goal.returns
returns c =
    let m = c.args.m in
    let luma : length m.intra_16x16_prob ≡ 4 = search rules in
    let chroma : length m.intra_chroma_prob ≡ 3 = search rules in
    let size = length-append m.intra_16x16_prob m.intra_chroma_prob in
    c.into_buffer.ensures.bytes ∙ full _ _ 7 _ c.new-out.ensures c.put_modes.ensures (omega arith)
