-- The bool is chosen by the limit or by the window; then come no doublings, or those of norm and fill. What the window reads the decoder
-- reads, and the new window is one over the area.
use mathlib.Core.Path.{refl}
use native.Mathlib.Nat.{mod-eq_of_lt}
use native.Mathlib.Omega.{arith}
use Rattle.bool_decoder.proofs.Over.{chosen_one, chosen_zero, limit_is, holds_v, doubled, as_it_is}
use Rattle.bool_decoder.proofs.Steps.{holder, good}
use Rattle.bool_decoder.proofs.BoolDecoder.read_bit.Goals as goal

pub invariant_of-self : goal.invariant_of-self
invariant_of-self c = let d = c.args.self.now in
    let s = c.split_of-split.ensures in
    let p = c.args.probability in
    let q = limit_is d.over p s.0 s.2 c.if-old-split.true in
    record { over = (as_it_is (good c.args.self.now c.requires) (chosen_zero d.over p s.0 s.2 refl q.1) q.0 d.over.limit).over }

pub returns-then-old-split : goal.returns-then-old-split
returns-then-old-split c = let d = c.args.self.now in
    let s = c.split_of-split.ensures in
    let p = c.args.probability in
    let q = limit_is d.over p s.0 s.2 c.if-old-split.true in
    holder refl (as_it_is (good c.args.self.now c.requires) (chosen_zero d.over p s.0 s.2 refl q.1) q.0 d.over.limit)

pub fill-value-requires : goal.fill-value-requires
fill-value-requires c = let o = c.args.self.now.over in
    let s = c.split_of-split.ensures in
    let chosen = chosen_one o c.args.probability s.0 s.2 c.bigsplit-big.ensures c.if-big-old.true in
    (holds_v (good c.args.self.now c.requires) chosen, omega (arith, o.few, o.count), c.norm-shift.ensures.2)

pub invariant_of-self-then-big-old : goal.invariant_of-self-then-big-old
invariant_of-self-then-big-old c = let s = c.split_of-split.ensures in
    let n = c.norm-shift in
    let chosen = chosen_one c.args.self.now.over c.args.probability s.0 s.2 c.bigsplit-big.ensures c.if-big-old.true in
    record {
      over =
          (doubled (good c.args.self.now c.requires) chosen n.result n.ensures.0 n.ensures.1 n.ensures.2
          (mod-eq_of_lt (omega (arith, n.ensures.1))) c.limit_of.ensures c.fill-value.ensures).over;
    }

pub returns-then-big-old : goal.returns-then-big-old
returns-then-big-old c = let s = c.split_of-split.ensures in
    let n = c.norm-shift in
    let chosen = chosen_one c.args.self.now.over c.args.probability s.0 s.2 c.bigsplit-big.ensures c.if-big-old.true in
    holder refl (doubled (good c.args.self.now c.requires) chosen n.result n.ensures.0 n.ensures.1 n.ensures.2
    (mod-eq_of_lt (omega (arith, n.ensures.1))) c.limit_of.ensures c.fill-value.ensures)

pub invariant_of-self-else-big-old : goal.invariant_of-self-else-big-old
invariant_of-self-else-big-old c = let s = c.split_of-split.ensures in
    let n = c.norm-shift-else-big-old in
    let chosen = chosen_zero c.args.self.now.over c.args.probability s.0 s.2 c.bigsplit-big.ensures c.if-big-old.false in
    record {
      over =
          (doubled (good c.args.self.now c.requires) chosen n.result n.ensures.0 n.ensures.1 n.ensures.2
          (mod-eq_of_lt (omega (arith, n.ensures.1))) c.limit_of-else-big-old.ensures c.fill-value-else-big-old.ensures).over;
    }

pub returns-else-big-old : goal.returns-else-big-old
returns-else-big-old c = let s = c.split_of-split.ensures in
    let n = c.norm-shift-else-big-old in
    let chosen = chosen_zero c.args.self.now.over c.args.probability s.0 s.2 c.bigsplit-big.ensures c.if-big-old.false in
    holder refl (doubled (good c.args.self.now c.requires) chosen n.result n.ensures.0 n.ensures.1 n.ensures.2
    (mod-eq_of_lt (omega (arith, n.ensures.1))) c.limit_of-else-big-old.ensures c.fill-value-else-big-old.ensures)
