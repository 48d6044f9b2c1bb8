-- The byte before the point is V's whole part: `whole_part`.
use Rattle.rfc6386.specs.Decoder.{whole}
use Rattle.bool_slow.proofs.Bytes.{whole_part}
use Rattle.bool_slow.proofs.bare.SlowDecoderBareDecoder.whole.Goals as goal

pub returns : goal.returns
unfolding whole
returns c = whole_part c.args.self.now.over
