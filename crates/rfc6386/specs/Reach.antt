-- What the position and the bits past the end tell of how far a decoder has gone: together they are its doublings, and a monitor may trust
-- either.
use Rattle.std.specs.Prelude.{ℕ, ◌+◌, ◌≤◌, ◌⊎◌, ◌≡◌, List, drop}
use Rattle.vp8_records.specs.declared.Mode.{Mode}
use Rattle.vp8_records.specs.declared.Header.{Header}
use Rattle.rfc6386.specs.Decoder.{bits}
use Rattle.rfc6386.specs.Frame.{held, decoded}

-- after c doublings over l bits: the position is the end, or nothing lies past it
pub record Reach (l c at past : ℕ) : Type 0 where
  pub all : at + past ≡ c
  pub within : at ≤ l
  pub either : (at ≡ l) ⊎ (past ≡ 0)

-- the bytes that the decoder may read, by the header of an accepted frame
abbrev pub readable : Mode → Header → List ℕ → List ℕ
readable md h f = held md h.first_part_size (drop h.data_chunk_size f)

-- so in a header, after the doublings of its own bools
abbrev pub Reaches : Mode → Header → List ℕ → Type 0
Reaches md h f =
    let bytes = readable md h f in
    Reach (bits bytes) (decoded md h.key_frame bytes).then.c h.header_size h.past
