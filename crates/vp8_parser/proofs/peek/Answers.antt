-- The chunk of the first ten bytes, or its refusal, is what the definition looks at.
use Rattle.std.proofs.Common.{ℕ, List, ap, ◌∙◌}
use Rattle.std.proofs.lemmas.Result.{err_from_is_err_and}
use Rattle.rfc6386.specs.Frame.{chunk}
use Rattle.rfc6386.specs.Peek.{seen, looked, peek}
use Rattle.vp8_parser.proofs.peek.Goals as goal

pub returns-in_err-chunk : goal.returns-in_err-chunk
unfolding peek
returns-in_err-chunk c =
    let p = err_from_is_err_and c.from_residual.result c.from_residual.ensures.1 in
    rw (p.1, p.2) (ap looked c.in_err-chunk.ensures ∙ ap (λ (f : List ℕ). looked (chunk f)) c.first_ten.ensures)

pub returns : goal.returns
unfolding peek
returns c =
    ap seen c.look.ensures ∙ ap looked c.in_ok-chunk.ensures ∙ ap (λ (f : List ℕ). looked (chunk f)) c.first_ten.ensures
