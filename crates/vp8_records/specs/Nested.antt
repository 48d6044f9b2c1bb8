-- The coefficient probabilities as nested records, as they were held before they were one run, and as the Rust holds them: block types
-- of bands of contexts of eleven numbers. Nothing but the theorems that both layouts hold the same entries speaks of these.
use Rattle.std.specs.Prelude.{◌≡◌, ℕ, List, [], length, get_or, take, slice_index}
use Rattle.vp8_records.specs.declared.CoeffProbs.{CoeffProbs}
use Rattle.vp8_records.specs.Layout.{rows, joined}
use Rattle.vp8_records.specs.Shape.{Each}

-- one for each place of the token tree
pub record Tokens : Type 0 where
  pub v : List ℕ

-- one for each context
pub record Contexts : Type 0 where
  pub v : List Tokens

-- one for each band
pub record Bands : Type 0 where
  pub v : List Contexts

-- one for each block type
pub record Nested : Type 0 where
  pub v : List Bands

-- laid out of a run
abbrev pub laid_tokens : List ℕ → Tokens
laid_tokens xs = record { v = take 11 xs }

abbrev pub laid_contexts : List ℕ → Contexts
laid_contexts xs = record { v = rows 3 11 laid_tokens xs }

abbrev pub laid_bands : List ℕ → Bands
laid_bands xs = record { v = rows 8 33 laid_contexts xs }

abbrev pub laid_nested : List ℕ → Nested
laid_nested xs = record { v = rows 4 264 laid_bands xs }

-- as a run again
abbrev pub flat_tokens : Tokens → List ℕ
flat_tokens r = r.v

abbrev pub flat_contexts : Contexts → List ℕ
flat_contexts r = joined flat_tokens r.v

abbrev pub flat_bands : Bands → List ℕ
flat_bands r = joined flat_contexts r.v

abbrev pub flat_nested : Nested → List ℕ
flat_nested r = joined flat_bands r.v

-- the nested view of the run
abbrev pub nest : CoeffProbs → Nested
nest c = laid_nested c.v

-- entry (i, j, k, l)
abbrev pub nested_at : Nested → ℕ → ℕ → ℕ → ℕ → ℕ
nested_at r i j k l =
    slice_index (get_or (get_or (get_or r.v i (record { v = [] })).v j (record { v = [] })).v k (record { v = [] })).v l

-- their shape
abbrev pub SizedTokens : Tokens → Type 0
SizedTokens r = length r.v ≡ 11

abbrev pub SizedContexts : Contexts → Type 0
SizedContexts r = Each 3 SizedTokens r.v

abbrev pub SizedBands : Bands → Type 0
SizedBands r = Each 8 SizedContexts r.v

abbrev pub SizedNested : Nested → Type 0
SizedNested r = Each 4 SizedBands r.v
