-- The definition's value of each answer of the code.
use Rattle.std.specs.Prelude as Std
use Rattle.std.specs.Prelude.{ℕ, ◌^◌, List, ◌++◌, take, replicate, Some, None, Result, Ok, Err}
use Rattle.std.proofs.Math.Option.{Option, none, some}
use Rattle.vp8_records.specs.declared.Mode.{Mode}
use Rattle.vp8_records.specs.declared.Parser.{Parser}
use Rattle.vp8_records.specs.declared.Parsed.{Parsed}
use Rattle.vp8_records.specs.declared.PeekRefusal.{PeekRefusal}
use Rattle.vp8_records.specs.declared.Refusal.{Refusal}
use Rattle.vp8_records.specs.Outcome.{refusal_of}
use Rattle.rfc6386.specs.Decoder.{Out, bits}
use Rattle.rfc6386.specs.Coded.{Coded}
use Rattle.rfc6386.specs.Frame.{Chunk, Opened, shut, opened, snapshot, sizes, decoded}
use Rattle.rfc6386.specs.Call.{sized}
use Rattle.vp8_header.specs.declared.DataChunk.{DataChunk}
use Rattle.vp8_header.specs.Headed.{chunk_of}

-- the chunk, or a refusal
abbrev pub opened_of : Result DataChunk Refusal → Opened
opened_of (Ok k) = opened (chunk_of k)
opened_of (Err r) = shut r

-- the same of bytes that are not too many, which are refused by 1 and 2 alone
abbrev pub opened_early : Result DataChunk PeekRefusal → Opened
opened_early (Ok k) = opened (chunk_of k)
opened_early (Err e) = shut (refusal_of e)

-- sizes in an array; unused entries are 0
abbrev pub padded : List ℕ → List ℕ
padded ss = take 8 (ss ++ replicate 8 0)

abbrev pub sizes_of : Option (List ℕ) → Std.Option (List ℕ)
sizes_of none = None
sizes_of (some ss) = Some (padded ss)

-- the answer by a run of the header's tree over the bytes that are held
abbrev pub sized_by : Chunk → List ℕ → List ℕ → Parser → Out Coded → Parsed
sized_by k area bytes p o = sized (sizes (2 ^ o.got.log2parts) area k.first) k o.got (snapshot (bits bytes) o.then) p

-- over an area of which these bytes are held
unfoldable pub sized_of : Mode → Chunk → List ℕ → List ℕ → Parser → Parsed
sized_of md k area bytes p = sized_by k area bytes p (decoded md k.key bytes)
