-- The loop takes one record a turn: `Turns`.
use native.Mathlib.Omega.{arith}
use mathlib.Core.Path.{sym, ap, ◌∙◌}
use Rattle.std.proofs.Common.{Ok, Err}
use Rattle.std.proofs.lemmas.Result.{err_from_is_err_and}
use Rattle.ivf.specs.declared.WalkRefusal.TheVariants.{ListFull}
use Rattle.ivf.proofs.Turns.{begin, turn, full, stop, refused}
use Rattle.ivf.proofs.Steps.{headed_long, fits, walk_done, walk_cut}
use Rattle.ivf.proofs.list.Goals as goal

pub returns-then-not-is_headed : goal.returns-then-not-is_headed
returns-then-not-is_headed c = rw c.requires (refused _ _ _ _ (sym c.is_headed.ensures ∙ c.if-not-is_headed.true))

pub loop-size-init : goal.loop-size-init
loop-size-init c = let header = sym c.is_headed.ensures ∙ c.if-not-is_headed.false in
    rw c.requires (begin _ _ _ _ (headed_long _ header) c.min-room.ensures)

pub returns-in_err-size : goal.returns-in_err-size
returns-in_err-size c = let header = sym c.is_headed.ensures ∙ c.if-not-is_headed.false in
    let p = err_from_is_err_and c.from_residual.result c.from_residual.ensures.1 in
    let here = sym c.in_err-size.ensures in
    rw (p.1, p.2) (stop c.loop-size.invariant _ header c.min-room.ensures (walk_cut _ _ _ here))

pub returns-then-room-count : goal.returns-then-room-count
returns-then-room-count c = let header = sym c.is_headed.ensures ∙ c.if-not-is_headed.false in
    let here = sym c.in_ok-size.ensures ∙ ap Ok c.in-Some.is in
    stop c.loop-size.invariant (Err ListFull) header c.min-room.ensures (full c.loop-size.invariant here c.if-room-count.true)

pub loop-size-smaller : goal.loop-size-smaller
loop-size-smaller c = let here = sym c.in_ok-size.ensures ∙ ap Ok c.in-Some.is in
    let end = fits _ _ c.loop-size.invariant.within here in
    omega arith

pub loop-size-preserved : goal.loop-size-preserved
loop-size-preserved c = let here = sym c.in_ok-size.ensures ∙ ap Ok c.in-Some.is in
    turn c.loop-size.invariant here c.if-room-count.false

pub returns : goal.returns
returns c = let header = sym c.is_headed.ensures ∙ c.if-not-is_headed.false in
    let here = sym c.in_ok-size.ensures ∙ ap Ok c.in_default.is in
    stop c.loop-size.invariant (Ok tt) header c.min-room.ensures (walk_done _ _ _ here)
