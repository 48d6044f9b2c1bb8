-- The verdict, then what follows the heading.
use Prim.Native.Nat.{ℕ, ◌-◌}
use native.Mathlib.Omega.{arith}
use lib.ListN.{length, drop}
use mathlib.Core.Path.{◌≡◌, ap, ◌∙◌}
use Rattle.std.proofs.Common.{Ok}
use Rattle.std.proofs.lemmas.Result.{err_from_is_err_and}
use Rattle.vp8_state.specs.Laid.{parser_of}
use Rattle.vp8_state.specs.Handed.{read_block}
use Rattle.vp8_state.proofs.record_in.Goals as goal

pub returns-in_err-block_verdict : goal.returns-in_err-block_verdict
unfolding read_block
returns-in_err-block_verdict c = let p = err_from_is_err_and c.from_residual.result c.from_residual.ensures.1 in
    rw (p.1, p.2, ← c.in_err-block_verdict.ensures.verdict)

pub returns : goal.returns
unfolding read_block
returns c = let b = c.args.block.now in
    let chunk = rw c.unwrap.ensures at c.last_chunk.ensures.cases in
    let from : length b - 1126 ≡ 22 = omega (arith, c.in_ok-block_verdict.ensures.size) in
    let bytes : c.unwrap.result.now ≡ drop 22 b = chunk.1.same ∙ ap (λ (n : ℕ). drop n b) from in
    rw (← c.in_ok-block_verdict.ensures.verdict) (ap Ok (c.parser_of.ensures ∙ ap parser_of bytes))
