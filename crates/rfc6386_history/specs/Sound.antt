-- A record without fault: what every record is that calls make of a record without one, the fresh one first (proofs/Sound.antt).
use Rattle.vp8_records.specs.declared.Parser.{Parser}
use Rattle.vp8_records.specs.Shape.{Every, Sized}
use Rattle.rfc6386.specs.Holds.{Within}

-- no segment quantizer of −128, and no filter value outside −63 .. 63 (docs/RULES.md, the block)
pub record Sound (p : Parser) : Type 0 where
  pub sized : Sized p
  pub quantizers : Every (Within 127) p.segmentation.quantizer_update_value
  pub levels : Every (Within 63) p.segmentation.lf_update_value
  pub frames : Every (Within 63) p.mb_lf_adjust.ref_frame_delta
  pub modes : Every (Within 63) p.mb_lf_adjust.mb_mode_delta
