-- As read_bit, where the shift is 1, or 0 at a split of 128.
use mathlib.Core.Path.{refl}
use native.Mathlib.Omega.{arith}
use lib.Dec.{lit≤}
use Rattle.rfc6386.specs.Reads.{flag}
use Rattle.bool_decoder.proofs.Over.{chosen_one, chosen_zero, holds_v, doubled, as_it_is}
use Rattle.bool_decoder.proofs.Steps.{holder, good}
use Rattle.bool_decoder.proofs.BoolDecoder.read_flag.Goals as goal

pub fill-value-requires : goal.fill-value-requires
fill-value-requires c = let o = c.args.self.now.over in
    let s = c.half_of-split.ensures in
    let chosen = chosen_one o 128 s.0 (omega (arith, s.3)) c.bigsplit-big.ensures c.if-big-old.true in
    (holds_v (good c.args.self.now c.requires) chosen, omega (arith, o.few, o.count), lit≤ tt)

pub invariant_of-self : goal.invariant_of-self
invariant_of-self c = let s = c.half_of-split.ensures in
    let chosen = chosen_one c.args.self.now.over 128 s.0 (omega (arith, s.3)) c.bigsplit-big.ensures c.if-big-old.true in
    record {
      over =
          (doubled (good c.args.self.now c.requires) chosen 1 (omega (arith, s.3)) (omega (arith, s.4)) (lit≤ tt) refl c.limit_of.ensures
          c.fill-value.ensures).over;
    }

pub returns-then-big-old : goal.returns-then-big-old
unfolding flag
returns-then-big-old c = let s = c.half_of-split.ensures in
    let chosen = chosen_one c.args.self.now.over 128 s.0 (omega (arith, s.3)) c.bigsplit-big.ensures c.if-big-old.true in
    holder refl (doubled (good c.args.self.now c.requires) chosen 1 (omega (arith, s.3)) (omega (arith, s.4)) (lit≤ tt) refl
    c.limit_of.ensures c.fill-value.ensures)

pub returns-then-split-ge128 : goal.returns-then-split-ge128
unfolding flag
returns-then-split-ge128 c = let s = c.half_of-split.ensures in
    let chosen = chosen_zero c.args.self.now.over 128 s.0 (omega (arith, s.3)) c.bigsplit-big.ensures c.if-big-old.false in
    holder refl (as_it_is (good c.args.self.now c.requires) chosen c.if-split-ge128.true c.limit_of-self.ensures)

pub invariant_of-self-else-split-ge128 : goal.invariant_of-self-else-split-ge128
invariant_of-self-else-split-ge128 c = let s = c.half_of-split.ensures in
    let chosen = chosen_zero c.args.self.now.over 128 s.0 (omega (arith, s.3)) c.bigsplit-big.ensures c.if-big-old.false in
    record {
      over =
          (doubled (good c.args.self.now c.requires) chosen 1 (omega (arith, s.1)) (omega (arith, c.if-split-ge128.false)) (lit≤ tt) refl
          c.limit_of-else-split-ge128.ensures c.fill-value-else-split-ge128.ensures).over;
    }

pub returns-else-split-ge128 : goal.returns-else-split-ge128
unfolding flag
returns-else-split-ge128 c = let s = c.half_of-split.ensures in
    let chosen = chosen_zero c.args.self.now.over 128 s.0 (omega (arith, s.3)) c.bigsplit-big.ensures c.if-big-old.false in
    holder refl (doubled (good c.args.self.now c.requires) chosen 1 (omega (arith, s.1)) (omega (arith, c.if-split-ge128.false))
    (lit≤ tt) refl c.limit_of-else-split-ge128.ensures c.fill-value-else-split-ge128.ensures)
