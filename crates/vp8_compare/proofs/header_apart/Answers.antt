-- The front, then the back: `then` of `Parts`.
use native.Mathlib.Omega.{arith}
use mathlib.Core.Path.{◌≡◌}
use lib.ListN.{length, length-append}
use borrow.Author.Rules.{rules}
use Rattle.vp8_flat.specs.Numbers.{quant_of}
use Rattle.vp8_compare.proofs.Parts.{then}
use Rattle.vp8_compare.proofs.header_apart.Goals as goal

pub returns : goal.returns
returns c = let sizes = c.args.h.partition_size in
    let lengths : length sizes ≡ 8 = search rules in
    let thirty = length-append sizes (quant_of c.args.h.quant_indices) in
    then 0 30 _ _ _ (omega (arith, lengths, thirty)) c.front_apart.ensures c.back_apart.ensures c.or.ensures
