-- What it means that the parts of an accepted frame lie end to end and fill it.
use Rattle.std.specs.Prelude.{ℕ, ◌-◌, ◌*◌, ◌^◌, ◌≡◌, List, [], ◌∷◌, map, length, take, drop}
use Rattle.vp8_records.specs.declared.Header.{Header}
use Rattle.vp8_records.specs.Layout.{joined}

-- the number of partitions
abbrev pub partitions : Header → ℕ
partitions h = 2 ^ h.log2_nbr_of_dct_partitions

-- the parts' lengths by the header: chunk, first partition, size bytes, and each partition
abbrev pub lengths : Header → List ℕ
lengths h =
    h.data_chunk_size ∷ h.first_part_size ∷ 3 * (partitions h - 1) ∷ take (partitions h) h.partition_size

-- a frame cut into parts of these lengths, one after the other
unfoldable pub cuts : List ℕ → List ℕ → List (List ℕ)
cuts [] f = []
cuts (n ∷ ns) f = take n f ∷ cuts ns (drop n f)

pub record Fills (h : Header) (f : List ℕ) : Type 0 where
  pub each : map length (cuts (lengths h) f) ≡ lengths h
  pub whole : joined (λ part. part) (cuts (lengths h) f) ≡ f
