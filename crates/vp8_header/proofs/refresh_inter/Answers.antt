-- One read after the other, chained.
use Rattle.rfc6386.specs.Coded.{refresh}
use Rattle.bool_decoder.proofs.Steps.{then, done}
use Rattle.bool_decoder.proofs.Made.{makes}
use Rattle.vp8_header.specs.Stages.{refresh_of}
use Rattle.vp8_header.proofs.refresh_inter.Goals as goal

pub returns : goal.returns
unfolding refresh
returns c = makes refresh_of
    (then _ c.read_flag-refresh_golden_frame.ensures (then _ c.read_flag-refresh_alternate_frame.ensures
    (then _ c.byte_if-copy_buffer_to_golden.ensures (then _ c.byte_if-copy_buffer_to_alternate.ensures
    (then _ c.read_flag-sign_bias_golden.ensures (then _ c.read_flag-sign_bias_alternate.ensures
    (then _ c.read_flag-refresh_entropy_probs.ensures (then _ c.read_flag-refresh_last.ensures done))))))))
