-- One read, chained with what is made of it.
use Rattle.rfc6386.specs.Coded.{refresh}
use Rattle.bool_decoder.proofs.Steps.{then, done}
use Rattle.bool_decoder.proofs.Made.{makes}
use Rattle.vp8_header.specs.Stages.{refresh_of}
use Rattle.vp8_header.proofs.refresh_key.Goals as goal

pub returns : goal.returns
unfolding refresh
returns c = makes refresh_of (then _ c.read_flag.ensures done)
