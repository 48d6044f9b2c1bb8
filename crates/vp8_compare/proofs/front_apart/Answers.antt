-- Each list is what its call gives; one after the other by `then` of `Parts`.
use native.Mathlib.Omega.{arith}
use mathlib.Core.Path.{◌≡◌, refl}
use lib.ListN.{length}
use Rattle.std.proofs.Common.{append_assoc}
use Rattle.vp8_compare.proofs.Parts.{then}
use borrow.Author.Rules.{rules}
use Rattle.vp8_compare.proofs.front_apart.Goals as goal

pub returns : goal.returns
returns c =
    let lengths : length c.args.h.partition_size ≡ 8 = search rules in
    let shape = rw c.shape-shape.ensures at c.first_apart.ensures in
    let quantizers = rw c.quantizers-quantizers.ensures at c.first_apart-3.ensures in
    let stored = c.args.stored.now in
    let two = then 0 16 _ c.args.h.partition_size stored refl shape c.first_apart-2.ensures c.or.ensures in
    rw append_assoc at (then 0 24 _ _ stored (omega (arith, lengths)) two quantizers c.or-2.ensures)
