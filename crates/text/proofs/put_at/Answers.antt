-- The store is `put` where there is room, and otherwise nothing is stored.
use native.Mathlib.Omega.{arith}
use mathlib.Core.Path.{ap, ◌∙◌}
use Prim.Native.Nat.{ℕ, ◌+◌}
use mathlib.Core.List.{List}
use Rattle.std.proofs.Common.{length}
use lib.ListN.{set}
use Rattle.text.specs.Text.{standing}
use Rattle.text.proofs.Puts.{put_room, put_full}
use Rattle.text.proofs.put_at.Goals as goal

pub returns-then-at-as_slice : goal.returns-then-at-as_slice
returns-then-at-as_slice g c =
    let a = c.args.at in
    let xs = g.B.AsSlice.items c.args.buffer.now in
    ap (λ (ys : List ℕ). standing (g.B.Buffer.place c.put.new.self) ys (a + 1)) c.put.ensures.bytes
    ∙ ap (λ (p : ℕ). standing p (set xs a c.args.b) (a + 1)) c.put.ensures.place
    ∙ put_room xs a c.args.b (omega (arith, c.if-at-as_slice.true, ap length c.as_slice.ensures))

pub returns-else-at-as_slice : goal.returns-else-at-as_slice
returns-else-at-as_slice g c =
    put_full (g.B.AsSlice.items c.args.buffer.now) c.args.at c.args.b
    (omega (arith, c.if-at-as_slice.false, ap length c.as_slice.ensures))
