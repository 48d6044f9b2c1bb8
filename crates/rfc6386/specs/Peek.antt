-- What the first ten bytes of a frame tell, before the rest has come (sections 9.1 and 19.1): the chunk's fields, or refusal 1 or 2. The
-- tag and the start code are read by the definition of a call's chunk; of a shorter frame all bytes are looked at.
use Rattle.std.specs.Prelude.{ℕ, ◌<◌, Bool, false, List, [], take, Result, Ok, Err}
use Rattle.vp8_records.specs.declared.Header.{Header}
use Rattle.vp8_records.specs.declared.Look.{Look}
use Rattle.vp8_records.specs.declared.Refusal.{Refusal}
use Rattle.vp8_records.specs.declared.PeekRefusal.{PeekRefusal}
use Rattle.vp8_records.specs.Outcome.{Told, told, number_of, refusal_of}
use Rattle.rfc6386.specs.Frame.{Chunk, pixels, scale, Opened, shut, opened, chunk}

-- what a chunk tells
abbrev pub look : Chunk → Look
look k = record {
  key_frame = k.key;
  «version» = k.version;
  show_frame = k.show;
  first_part_size = k.first;
  «width» = pixels k.width;
  «height» = pixels k.height;
  horiz_scale_code = scale k.width;
  vert_scale_code = scale k.height;
}

pub data Peek : Type 0 where
  barred : Refusal → Peek
  seen : Look → Peek

abbrev pub looked : Opened → Peek
looked (shut r) = barred r
looked (opened k) = seen (look k)

-- a look at a frame, or at as much of it as is there
unfoldable pub peek : List ℕ → Peek
peek f = looked (chunk (take 10 f))

-- the number of a refusal and its values, by the one table of outcomes; 0 and none where the bytes told
abbrev pub told_by : Peek → Told
told_by (barred r) = told (Err r)
told_by (seen l) = record { number = 0; carried = [] }

-- what the code's answer stands for
abbrev pub peek_of : Result Look PeekRefusal → Peek
peek_of (Ok l) = seen l
peek_of (Err e) = barred (refusal_of e)

-- refusal 1 or 2
abbrev pub Early : Refusal → Type 0
Early r = number_of (Err r) < 3

-- whether a key frame was seen
abbrev pub key_seen : Peek → Bool
key_seen (barred o) = false
key_seen (seen l) = l.key_frame

-- the same eight fields of a header
abbrev pub look_from : Header → Look
look_from h = record {
  key_frame = h.key_frame;
  «version» = h.version;
  show_frame = h.show_frame;
  first_part_size = h.first_part_size;
  «width» = h.width;
  «height» = h.height;
  horiz_scale_code = h.horiz_scale_code;
  vert_scale_code = h.vert_scale_code;
}
