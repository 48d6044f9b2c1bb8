-- The header and the sizes are the definition's; the answer goes by whether there are sizes.
use Rattle.std.proofs.Common.{◌≡◌, ℕ, ◌^◌, List, ap, ◌∙◌}
use Rattle.std.proofs.Math.Option.{Option}
use Rattle.std.specs.Prelude.{Ok, Err}
use Rattle.vp8_records.specs.declared.Refusal.TheVariants.{EndOfHeader}
use Rattle.vp8_records.specs.declared.Mode.{Mode}
use Rattle.vp8_records.specs.declared.Parser.{Parser}
use Rattle.vp8_records.specs.Start.{blank}
use Rattle.vp8_records.specs.Length.{partitions_of}
use Rattle.rfc6386.specs.Frame.{sizes, decoded}
use Rattle.rfc6386.specs.Call.{answer}
use Rattle.vp8_header.specs.declared.DataChunk.{DataChunk}
use Rattle.vp8_header.specs.declared.Headed.{Headed}
use Rattle.vp8_header.specs.Headed.{chunk_of, headed_of}
use Rattle.vp8_parser.specs.Answers.{sized_of}
use Rattle.vp8_parser.proofs.Frames.{few, partitions_are, one_to_eight, sized_some, sized_none}
use Rattle.vp8_parser.proofs.parse_area.Goals as goal

-- the definition's sizes
abbrev parts_of : Mode → DataChunk → List ℕ → List ℕ → Option (List ℕ)
parts_of md k area bytes = sizes (2 ^ (decoded md k.key_frame bytes).got.log2parts) area k.first_part_size

-- the header has their number
counted : (md : Mode) (k : DataChunk) (bytes : List ℕ) (p : Parser) (h : Headed) (n : ℕ) → h ≡ headed_of md (chunk_of k) bytes p
    → n ≡ partitions_of h.header → n ≡ 2 ^ (decoded md k.key_frame bytes).got.log2parts
counted md k bytes p h n e is = is ∙ ap (λ (y : Headed). partitions_of y.header) e ∙ partitions_are md (chunk_of k) bytes p

pub compute_partition_sizes-requires-clause-few : goal.compute_partition_sizes-requires-clause-few
compute_partition_sizes-requires-clause-few c = let a = c.args in
    let n = counted a.mode a.chunk a.held.now a.parser _ _ c.parse_frame_header-headed.ensures c.num_dct_partitions-partitions.ensures in
    rw n (one_to_eight _ (few a.mode a.chunk.key_frame a.held.now))

pub returns : goal.returns
unfolding headed_of sized_of
returns c = let a = c.args in
    let h = c.parse_frame_header-headed.ensures in
    let n = counted a.mode a.chunk a.held.now a.parser _ _ h c.num_dct_partitions-partitions.ensures in
    ap (λ (y : Headed). answer (Ok tt) (record y.header { partition_size = c.in-Some.sizes }) y.parser) h
    ∙ sized_some (chunk_of a.chunk) _ _ a.parser (parts_of a.mode a.chunk a.area.now a.held.now) _ (rw n at c.in-Some.ensures)

pub returns-in_default : goal.returns-in_default
unfolding headed_of sized_of
returns-in_default c = let a = c.args in
    let h = c.parse_frame_header-headed.ensures in
    let n = counted a.mode a.chunk a.held.now a.parser _ _ h c.num_dct_partitions-partitions.ensures in
    c.refused.ensures ∙ ap (λ (y : Headed). answer (Err EndOfHeader) blank y.parser) h
    ∙ sized_none (chunk_of a.chunk) _ _ a.parser (parts_of a.mode a.chunk a.area.now a.held.now) (rw n at c.in_default.ensures)
