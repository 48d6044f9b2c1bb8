-- One read after the other, chained; the adjustments are the definition's written over the old ones.
use mathlib.Core.Path.{sym}
use Rattle.bool_decoder.proofs.Steps.{then, done}
use Rattle.bool_decoder.proofs.Made.{worth, makes, made}
use Rattle.vp8_header.specs.Stages.{second, second_of}
use Rattle.vp8_header.proofs.parse_second.Goals as goal

pub returns : goal.returns
unfolding second second_of
returns c = let a = made c.parse_mb_lf_adjustments.ensures.ran in
    let q = c.parse_quant_indices in
    let f = made c.parse_refresh-refresh.ensures in
    worth (λ i. record {
      mb_lf_adjust = sym a.is i;
      log2_nbr_of_dct_partitions = c.read_byte-log2_nbr_of_dct_partitions.result;
      quant_indices = q.result.value;
      «refresh» = sym f.is i;
    })
    (makes (second_of c.args.adj)
    (then _ a.ran (then _ c.read_byte-log2_nbr_of_dct_partitions.ensures.ran (then _ q.ensures.ran (then _ f.ran done)))))
