-- One read after the other, chained; the probabilities are the definition's written over the old ones.
use mathlib.Core.Path.{sym}
use Rattle.rfc6386.specs.Call.{probs_of}
use Rattle.bool_decoder.proofs.Steps.{then, done}
use Rattle.bool_decoder.proofs.Made.{worth, makes, made}
use Rattle.vp8_header.specs.Stages.{third, third_of}
use Rattle.vp8_header.proofs.parse_third.Goals as goal

pub returns : goal.returns
unfolding third third_of
returns c = let t = made c.parse_token_prob_update-tokens.ensures.ran in
    let n = made c.parse_inter_if-inter.ensures in
    worth (λ i. record {
      coeff_prob = sym t.is i;
      mb_no_coeff_skip = c.read_flag-mb_no_coeff_skip.result;
      prob_skip_false = c.byte_if-prob_skip_false.result;
      «inter» = sym n.is i;
    })
    (makes (third_of (probs_of c.args.parser))
    (then _ t.ran (then _ c.read_flag-mb_no_coeff_skip.ensures (then _ c.byte_if-prob_skip_false.ensures (then _ n.ran done)))))
