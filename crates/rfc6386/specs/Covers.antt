-- What it means that a header's macroblocks cover its picture: 16 pixels each way, the last ones filled up, and none too many.
use Rattle.std.specs.Prelude.{ℕ, ◌+◌, ◌*◌, ◌≤◌, ◌<◌, ◌≡◌}
use Rattle.vp8_records.specs.declared.Header.{Header}

-- c macroblocks reach over n pixels, and the last of them has one of the n
pub record Spans (c n : ℕ) : Type 0 where
  pub reach : n ≤ c * 16
  pub needed : c * 16 < n + 16

pub record Covers (h : Header) : Type 0 where
  pub across : Spans h.mb_cols h.width
  pub down : Spans h.mb_rows h.height

-- as in an inter frame, whose header has no size
abbrev pub NoBlocks : Header → Type 0
NoBlocks h = (h.mb_cols ≡ 0) × (h.mb_rows ≡ 0)
