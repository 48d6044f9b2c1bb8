-- By what the first bytes are: a refusal, or a chunk, which the definition's call goes by too.
use Rattle.std.proofs.Common.{ap, ◌∙◌}
use Rattle.rfc6386.specs.Frame.{Opened, inside, decode}
use Rattle.rfc6386.specs.Call.{finish, call}
use Rattle.rfc6386.proofs.Peek.{opened_fits}
use Rattle.vp8_parser.proofs.parse_in.Goals as goal

pub parse_body-requires : goal.parse_body-requires
parse_body-requires c = opened_fits _ _ c.in-Ok.ensures

pub returns-in-Ok : goal.returns-in-Ok
unfolding call decode
returns-in-Ok c = let a = c.args in
    c.parse_body.ensures ∙ ap (λ (x : Opened). finish (inside a.mode x a.bytes.now) a.parser) c.in-Ok.ensures

pub returns-in-Err : goal.returns-in-Err
unfolding call decode
returns-in-Err c = let a = c.args in
    c.refused.ensures ∙ ap (λ (x : Opened). finish (inside a.mode x a.bytes.now) a.parser) c.in-Err.ensures
