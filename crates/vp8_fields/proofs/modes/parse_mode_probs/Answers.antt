-- A flag, then the reads that it picks: `make_bind`.
use Rattle.bool_decoder.proofs.Steps.{then, passed}
use Rattle.rfc6386.specs.Coded.{modes}
use Rattle.bool_decoder.proofs.Made.{make_bind, same}
use Rattle.vp8_fields.proofs.modes.parse_mode_probs.Goals as goal

pub returns : goal.returns
unfolding modes
returns g c =
    passed c.with_past.ensures.value c.with_past.ensures.past
    (same (make_bind _ _ _) (then _ c.read_flag-update.ensures c.bytes_if-values.ensures))
