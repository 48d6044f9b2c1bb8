-- After i turns the first i bytes are pasted.
use Prim.Native.Nat.{ℕ, ◌+◌}
use native.Mathlib.Omega.{arith}
use native.Mathlib.Numerals.{add-one}
use mathlib.Core.Path.{ap, sym, ◌∙◌}
use mathlib.Core.List.{List}
use lib.ListN.{get_or, set}
use lib.Seq.{paste, paste-suc}
use Rattle.vp8_state.proofs.put.Goals as goal

pub loop-i-preserved : goal.loop-i-preserved
loop-i-preserved c = let i = c.loop-i.i in
    let b = c.args.block.now in
    let at = c.args.at in
    let s = c.args.bytes.now in
    ap (λ (x : List ℕ). set x (at + i) (get_or s i 0)) c.loop-i.invariant
    ∙ paste-suc b at s i 0 (omega arith) (omega arith) ∙ ap (λ (k : ℕ). paste b at s k) (sym (add-one i))
