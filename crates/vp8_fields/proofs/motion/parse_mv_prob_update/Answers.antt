-- The loop over two components of 19 numbers each: `Each`, and the definition's reads by `level`.
use Prim.Native.Nat.{ℕ, ◌+◌, ◌*◌, ◌≤◌, ◌<◌}
use native.Mathlib.Omega.{arith}
use mathlib.Core.Path.{◌≡◌, refl, sym, ap, ◌∙◌}
use mathlib.Core.List.{List, ◌++◌}
use lib.ListN.{length, take, drop, length-drop}
use lib.Seq.{take-take, take_all, take_at, drop_at, drop-drop}
use Rattle.std.proofs.Common.{length-append}
use borrow.Author.Rules.{rules}
use Rattle.rfc6386.specs.Reads.{make, each}
use Rattle.rfc6386.specs.Runs.{over}
use Rattle.rfc6386.specs.Coded.{motion}
use Rattle.rfc6386.specs.Call.{mv_over}
use Rattle.vp8_records.proofs.Typed.{mv}
use Rattle.vp8_records.specs.Shape.{SizedMvContext}
use Rattle.vp8_records.specs.declared.MvContext.{MvContext}
use Rattle.vp8_records.specs.Layout.{flat_mv_context, laid_mv_context}
use Rattle.vp8_probs.specs.Tables.{mv_update}
use Rattle.bool_decoder.proofs.Steps.{passed}
use Rattle.bool_decoder.proofs.Each.{begin, next, end}
use Rattle.bool_decoder.proofs.Made.{same, makes}
use Rattle.vp8_fields.specs.Rows.{coded_mv, row_over}
use Rattle.vp8_fields.proofs.InPlace.{level}
use Rattle.vp8_fields.proofs.motion.parse_mv_prob_update.Goals as goal

-- a component takes no more of a list than it holds
own : (ys : List ℕ) → laid_mv_context ys ≡ laid_mv_context (take 19 ys)
own ys i = record { v = sym (take-take 19 19 ys (omega arith)) i }

-- a component's chances are the table's next nineteen, and those after them are left
module _ (i : ℕ) (row rest t : List ℕ) (e : drop (0 + i * 19) t ≡ row ++ rest) (n : length row ≡ 19) where
  chances : (x : MvContext)
      → row_over flat_mv_context laid_mv_context 19 coded_mv row 0 x ≡ row_over flat_mv_context laid_mv_context 19 coded_mv t (0 + i * 19) x
  chances x =
      ap (λ (ps : List ℕ). make (λ us. laid_mv_context (over us (flat_mv_context x))) (each coded_mv ps))
      (take_all 19 row (omega (arith, n)) ∙ sym (take_at row rest 19 n) ∙ ap (take 19) (sym e))

  left : rest ≡ drop (0 + (i + 1) * 19) t
  left =
      sym (drop_at row rest 19 n) ∙ ap (drop 19) (sym e) ∙ drop-drop 19 (0 + i * 19) t
      ∙ ap (λ (j : ℕ). drop j t) (omega arith)

  within : length t ≡ 38 → i < 2
  within m = omega (arith, n, m, ap length e, length-append row rest, length-drop (0 + i * 19) t)

pub loop-i-init : goal.loop-i-init
unfolding mv_update
loop-i-init c =
    let e = c.enumerate-i-items.ensures in
    let into = c.into_iter-i-iterator.ensures.into_iter_gives in
    rw into (rw (e.source, e.count) (c.chunks_exact.ensures.size, c.chunks_exact.ensures.rest, begin _ refl))

pub loop-i-preserved : goal.loop-i-preserved
unfolding mv_update
loop-i-preserved c =
    let i = c.loop-i.invariant in
    let s = c.in-Some.ensures.steps in
    let at = c.loop-i.i-iterator.count in
    let n : length c.args.mv_probs.v ≡ 2 = search rules in
    let e : drop (0 + at * 19) mv_update ≡ c.in-Some.chances.now ++ c.next.new.self.iter.rest.now = sym i.1 ∙ s.0.1.0 in
    let k = s.0.1.1 ∙ i.0 in (
      s.0.0 ∙ i.0,
      rw s.2 (left at _ _ _ e k),
      rw (s.1, s.2) (next _ _ i.2 (rw n (within at _ _ _ e k refl)) (same (chances at _ _ _ e k _) (rw s.1 at c.mv_context.ensures))),
    )

pub returns : goal.returns
unfolding mv_over motion mv_update
returns c =
    let n : length c.args.mv_probs.v ≡ 2 = search rules in
    let i = c.loop-i.invariant in
    let at = c.loop-i.i-iterator.count in
    let done : 2 ≤ at = omega (arith, c.in-None.ensures.steps.0.1.0, i.0, ap length i.1, length-drop (0 + at * 19) mv_update) in
    let rows_of_lem = level flat_mv_context laid_mv_context SizedMvContext 19 coded_mv mv_update (λ x h. h) own in
    passed c.with_past.ensures.value c.with_past.ensures.past
    (same (rows_of_lem (λ v. record { v = v }) 2 0 c.args.mv_probs.v n (mv c.args.mv_probs _ c.well_formed.1.0).1 (omega arith))
    (makes (λ v. record { v = v }) (end _ i.2 n done)))
