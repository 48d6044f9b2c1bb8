-- A frame's length by its header. Both definitions have a value for every header: the number of partitions is the Rust's shift, whose
-- amount counts modulo 64, and a sum that passes 64 bits wraps. A header of an accepted frame has at most 8 partitions, and nothing wraps.
use Rattle.std.specs.Prelude.{ℕ, ◌+◌, ◌-◌, ◌*◌, ◌%◌, ◌^◌, take, sum}
use Rattle.vp8_records.specs.declared.Header.{Header}

abbrev pub partitions_of : Header → ℕ
partitions_of h = 2 ^ (h.log2_nbr_of_dct_partitions % 64)

-- chunk, first partition, size bytes, and each partition
abbrev pub length_of : Header → ℕ
length_of h =
    (h.data_chunk_size + (h.first_part_size + (3 * (partitions_of h - 1) + sum (take (partitions_of h) h.partition_size))))
    % 2 ^ 64
