-- What the printing program prints of an answer: of an accepted frame what it is, and where each partition stands in it; of a refused one
-- its number and what 2 and 3 carry. Flags are 0 or 1, numbers decimal.
use Rattle.std.specs.Prelude.{ℕ, ◌+◌, ◌-◌, ◌*◌, cond, List, [], ◌∷◌, ◌++◌, eqb, take, Result}
use Rattle.vp8_records.specs.declared.Header.{Header}
use Rattle.vp8_records.specs.declared.Parsed.{Parsed}
use Rattle.vp8_records.specs.declared.Look.{Look}
use Rattle.vp8_records.specs.declared.PeekRefusal.{PeekRefusal}
use Rattle.vp8_records.specs.Outcome.{number_of}
use Rattle.text.specs.Template.{ascii, filled}
use Rattle.text.specs.Lines.{numbered}
use Rattle.vp8_flat.specs.Bytes.{bit_of}
use Rattle.vp8_flat.specs.Numbers.{partition_count}
use Rattle.vp8_show.specs.Refusal.{refusal_text, look_text}

unfoldable pub frame_line : Header → List ℕ
frame_line h =
    filled (ascii "accepted key | version | show | chunk | first | size |x| parts | bools |\n")
    (bit_of h.key_frame
    ∷ h.version
    ∷ bit_of h.show_frame
    ∷ h.data_chunk_size
    ∷ h.first_part_size
    ∷ h.width
    ∷ h.height
    ∷ partition_count h.log2_nbr_of_dct_partitions
    ∷ h.bools
    ∷ [])

-- its index, its offset in the frame, its bytes
unfoldable pub partition_line : ℕ → ℕ → ℕ → List ℕ
partition_line index start length = filled (ascii "part | start | length |\n") (index ∷ start ∷ length ∷ [])

-- each begins where the one before it ends
unfoldable pub partition_lines : ℕ → ℕ → List ℕ → List ℕ
partition_lines index start [] = []
partition_lines index start (n ∷ ns) = partition_line index start n ++ partition_lines (index + 1) (start + n) ns

-- the first one: after the chunk, the first partition, and three bytes for each size but the last one's
abbrev pub first_start : Header → ℕ
first_start h = h.data_chunk_size + h.first_part_size + 3 * (partition_count h.log2_nbr_of_dct_partitions - 1)

unfoldable pub accepted_text : Header → List ℕ
accepted_text h =
    frame_line h ++ partition_lines 0 (first_start h) (take (partition_count h.log2_nbr_of_dct_partitions) h.partition_size)

unfoldable pub printed : Parsed → List ℕ
printed p =
    cond (eqb (number_of p.outcome) 0) (accepted_text p.header)
    (refusal_text (ascii "refused ") (ascii " code ") (ascii " end ") (ascii " length ") p.outcome ++ ascii "\n")

-- the same, of which 1,024 bytes are taken, with an index and a space in front of each line
unfoldable pub printed_at : ℕ → Parsed → List ℕ
printed_at index p = numbered index (take 1024 (printed p))

-- what the looking program prints
unfoldable pub printed_look : Result Look PeekRefusal → List ℕ
printed_look r = look_text (ascii "key | version | show | first | size |x| scale |x|") (ascii "refused ") (ascii " code ") r ++ ascii "\n"
