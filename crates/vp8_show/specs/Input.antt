-- A record from the input.
use Rattle.std.specs.Prelude.{ℕ, ◌≤◌, List, length}
use Rattle.vp8_show.specs.declared.input.Record.{Record}
use Rattle.vp8_show.specs.declared.input.Record.TheVariants.{Frame, Fresh, In, Look}

-- the bytes of a frame, where the record is one, are no more than the buffer has room for
abbrev pub IsFrameIn : List ℕ → Record → Type 0
IsFrameIn buffer (Frame bytes) = length bytes.now ≤ length buffer
IsFrameIn buffer Fresh = Unit {0}
IsFrameIn buffer (In _) = Unit {0}
IsFrameIn buffer Look = Unit {0}
