-- The worked cases that the two modes read apart (docs/RULES.md numbers them): frames, all in one mode over a fresh parser, and what each
-- mode shows of the last; and where the decoder ends, which may be past the bytes that it may read.
use Rattle.std.specs.Prelude.{ℕ, ◌^◌, Bool, true, false, List, [], ◌∷◌, ◌++◌, map, take}
use Rattle.vp8_records.specs.declared.Mode.{Mode}
use Rattle.vp8_records.specs.declared.Parsed.{Parsed}
use Rattle.vp8_records.specs.Outcome.{number_of}
use Rattle.vp8_records.specs.Start.{fresh}
use Rattle.rfc6386.specs.Call.{call, after}
use Rattle.rfc6386_cases.specs.Cases.{key176x144}

-- the refusal, the partitions, the filter's type and level, and the segment probabilities left
pub record Told : Type 0 where
  pub number : ℕ
  pub sizes : List ℕ
  pub filter : Bool
  pub level : ℕ
  pub probs : List ℕ

abbrev pub told : Parsed → Told
told r =
    let h = r.header in
    record {
      number = number_of r.outcome;
      sizes = take (2 ^ h.log2_nbr_of_dct_partitions) h.partition_size;
      filter = h.filter_type;
      level = h.loop_filter_level;
      probs = r.parser.segmentation.segment_prob;
    }

-- frames before it, the frame, and what each mode shows of it
pub record Twice : Type 0 where
  pub before : List (List ℕ)
  pub frame : List ℕ
  pub rust : Told
  pub standard : Told

abbrev pub shown : Mode → Twice → Told
shown md x = told (call md (after fresh (map (λ f. record { mode = md; frame = f }) x.before)) x.frame)

abbrev same : ℕ → List ℕ
same n = n ∷ n ∷ n ∷ []

-- accepted, with no filter and nothing written to the probabilities; or refused
abbrev plain : List ℕ → Told
plain sizes = record { number = 0; sizes = sizes; filter = false; level = 0; probs = same 0 }

abbrev refused : ℕ → List ℕ → Told
refused n probs = record { number = n; sizes = 0 ∷ []; filter = false; level = 0; probs = probs }

abbrev nine : List ℕ
nine = 0x51 ∷ 0x00 ∷ 0x00 ∷ 0x00 ∷ 0x04 ∷ 0x00 ∷ 0x00 ∷ []

abbrev eleven : List ℕ
eleven = key176x144 0x70 ++ (0x30 ∷ 0x80 ∷ 0x00 ∷ 0x00 ∷ [])

unfoldable pub twice : List Twice
twice =
    -- 10
    record { before = []; frame = 0x31 ∷ 0x00 ∷ 0x00 ∷ 0x00 ∷ 0x04 ∷ []; rust = refused 5 (same 0); standard = plain (1 ∷ []) }
    -- 11
    ∷ record {
      before = [];
      frame = eleven;
      rust = record { number = 0; sizes = 1 ∷ []; filter = false; level = 8; probs = same 0 };
      standard = record { number = 0; sizes = 1 ∷ []; filter = true; level = 0; probs = same 255 };
    }
    -- 12, and 9 after 11
    ∷ record { before = eleven ∷ []; frame = 0x01 ∷ 0x00 ∷ 0x00 ∷ []; rust = refused 4 (same 0); standard = refused 4 (same 255) }
    ∷ record { before = eleven ∷ []; frame = nine; rust = refused 5 (same 0); standard = refused 5 (same 255) }
    -- an empty first partition before a byte
    ∷ record { before = []; frame = 0x01 ∷ 0x00 ∷ 0x00 ∷ 0x00 ∷ []; rust = plain (1 ∷ []); standard = refused 4 (same 0) }
    ∷ []

-- a frame that is accepted, and in each mode the bools, range, count, header_size and bits past the end after its header
pub record Ends : Type 0 where
  pub frame : List ℕ
  pub rust : List ℕ
  pub standard : List ℕ

abbrev pub ended : Mode → Ends → List ℕ
ended md x =
    let h = (call md fresh x.frame).header in
    h.bools ∷ h.bd_range ∷ h.bd_count ∷ h.header_size ∷ h.past ∷ []

unfoldable pub ends : List Ends
ends =
    -- 6
    record {
      frame = key176x144 0x30 ++ (0x00 ∷ 0x00 ∷ []);
      rust = 1086 ∷ 194 ∷ 5 ∷ 16 ∷ 27 ∷ [];
      standard = 1086 ∷ 194 ∷ 5 ∷ 8 ∷ 35 ∷ [];
    }
    -- 7
    ∷ record {
      frame = 0x31 ∷ 0x00 ∷ 0x00 ∷ 0x00 ∷ 0x00 ∷ [];
      rust = 1157 ∷ 178 ∷ 3 ∷ 16 ∷ 61 ∷ [];
      standard = 1157 ∷ 178 ∷ 3 ∷ 8 ∷ 69 ∷ [];
    }
    -- 8
    ∷ record {
      frame = nine ++ (0x00 ∷ 0x00 ∷ []);
      rust = 1157 ∷ 178 ∷ 3 ∷ 48 ∷ 29 ∷ [];
      standard = 1157 ∷ 178 ∷ 3 ∷ 16 ∷ 61 ∷ [];
    }
    -- 11
    ∷ record { frame = eleven; rust = 1088 ∷ 194 ∷ 3 ∷ 32 ∷ 13 ∷ []; standard = 1091 ∷ 194 ∷ 0 ∷ 24 ∷ 24 ∷ [] }
    ∷ []
