-- Each list is what its call gives; one after the other by `then` of `Parts`.
use mathlib.Core.Path.{refl}
use Rattle.vp8_compare.proofs.Parts.{then}
use Rattle.vp8_compare.proofs.back_apart.Goals as goal

pub returns : goal.returns
returns c = let flags = rw c.flags-flags.ensures at c.first_apart.ensures in
    let tail = rw c.tail-tail.ensures at c.first_apart-2.ensures in
    then 30 43 _ _ c.args.stored.now refl flags tail c.or.ensures
