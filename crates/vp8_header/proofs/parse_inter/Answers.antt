-- One read after the other, chained; the probabilities are the definition's written over the old ones.
use mathlib.Core.Path.{sym}
use Rattle.rfc6386.specs.Coded.{inter}
use Rattle.rfc6386.specs.Call.{modes_over}
use Rattle.bool_decoder.proofs.Steps.{then, done}
use Rattle.bool_decoder.proofs.Made.{worth, makes, made}
use Rattle.vp8_header.specs.Stages.{inter_of}
use Rattle.vp8_header.proofs.parse_inter.Goals as goal

pub returns : goal.returns
unfolding inter inter_of modes_over
returns c = let y = made c.parse_intra_16x16_prob_update.ensures.ran in
    let u = made c.parse_intra_chroma_prob_update.ensures.ran in
    let v = made c.parse_mv_prob_update.ensures.ran in
    worth (λ i. record {
      prob_intra = c.read_byte-prob_intra.result;
      prob_last = c.read_byte-prob_last.result;
      prob_golden = c.read_byte-prob_golden.result;
      mode_probs = record { intra_16x16_prob = sym y.is i; intra_chroma_prob = sym u.is i };
      mv_prob = sym v.is i;
    })
    (makes (inter_of c.args.modes c.args.mv)
    (then _ c.read_byte-prob_intra.ensures.ran (then _ c.read_byte-prob_last.ensures.ran (then _ c.read_byte-prob_golden.ensures.ran
    (then _ y.ran (then _ u.ran (then _ v.ran done)))))))
