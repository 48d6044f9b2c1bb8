-- A header read to its end, before its partition sizes are known, and the state after it: the definition's, over the bytes that the
-- decoder may read.
use Rattle.std.specs.Prelude.{ℕ, ◌≡◌, List, []}
use Rattle.vp8_records.specs.declared.Header.{Header}
use Rattle.vp8_records.specs.declared.Mode.{Mode}
use Rattle.vp8_records.specs.declared.Parser.{Parser}
use Rattle.rfc6386.specs.Decoder.{Out, bits}
use Rattle.rfc6386.specs.Coded.{Coded}
use Rattle.rfc6386.specs.Frame.{Chunk, Snapshot, snapshot, decoded}
use Rattle.rfc6386.specs.Call.{probs_of, probs_over, shown, apply, header_of}
use Rattle.vp8_header.specs.declared.DataChunk.{DataChunk}
use Rattle.vp8_header.specs.declared.First.{First}
use Rattle.vp8_header.specs.declared.Second.{Second}
use Rattle.vp8_header.specs.declared.Third.{Third}
use Rattle.vp8_header.specs.declared.Headed.{Headed}
use Rattle.vp8_header.specs.Stages.{FirstCoded, SecondCoded, ThirdCoded, first_of, second_of, third_of, whole_of}

-- the definition's chunk
abbrev pub chunk_of : DataChunk → Chunk
chunk_of k = record {
  key = k.key_frame;
  version = k.version;
  show = k.show_frame;
  first = k.first_part_size;
  size = k.data_chunk_size;
  width = k.width_code;
  height = k.height_code;
}

-- what a run of the tree makes of the state
abbrev pub headed_by : Chunk → Parser → ℕ → Out Coded → Headed
headed_by k p l o = record {
  header = header_of k o.got (snapshot l o.then) [] (shown k.key (probs_over o.got (probs_of p)));
  parser = apply o.got p;
}

-- h is the definition's header, its partition sizes still to come, of whatever the three stages read over whatever was kept
abbrev pub Heads : Header → DataChunk → First → Second → Third → Snapshot → Type 0
Heads h k x y z s =
    (p : Parser) (a : FirstCoded) (b : SecondCoded) (t : ThirdCoded)
    → x ≡ first_of p.segmentation a → y ≡ second_of p.mb_lf_adjust b → z ≡ third_of (probs_of p) t
    → h ≡ header_of (chunk_of k) (whole_of a b t) s [] (shown k.key_frame (probs_over (whole_of a b t) (probs_of p)))

unfoldable pub headed_of : Mode → Chunk → List ℕ → Parser → Headed
headed_of md k bytes p = headed_by k p (bits bytes) (decoded md k.key bytes)
