-- The window's whole part is V's: `whole_part`.
use mathlib.Core.Path.{sym}
use Rattle.rfc6386.specs.Decoder.{whole}
use Rattle.bool_decoder.specs.Window.{v_of}
use Rattle.bool_decoder.proofs.Over.{whole_part}
use Rattle.bool_decoder.proofs.BoolDecoderBareDecoder.whole.Goals as goal

pub returns : goal.returns
unfolding whole
returns c = let d = c.args.self.now in
    let area = d.area.now in
    let w = d.window in
    sym (whole_part area d.over.bytes w.doublings (v_of area w.doublings w.value) w.value d.over.holds)
