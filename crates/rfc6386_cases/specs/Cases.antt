-- The worked cases that are proved (docs/RULES.md numbers them), as one list: 1 to 5 are frames, 13 to 18 reads of the bare decoder. Each
-- says what goes in and what comes out.
use Rattle.std.specs.Prelude.{ℕ, Bool, true, false, List, [], ◌∷◌, pos, replicate}
use Rattle.vp8_records.specs.declared.Mode.{Mode}
use Rattle.vp8_records.specs.declared.Parser.{Parser}
use Rattle.vp8_records.specs.declared.Header.{Header}
use Rattle.vp8_records.specs.declared.Parsed.{Parsed}
use Rattle.vp8_records.specs.Layout.{laid_coeffs, laid_mv}
use Rattle.vp8_records.specs.Outcome.{number_of, carried_by}
use Rattle.vp8_records.specs.Start.{fresh, blank}
use Rattle.rfc6386.specs.Decoder.{State, start, bits, read_bool, whole, count_of, position, past}
use Rattle.rfc6386.specs.Call.{call}

-- a parser that differs from the fresh one in every kept number, so that a reset shows
unfoldable pub marked : Parser
marked = record {
  segmentation = record {
    segmentation_enabled = true;
    update_mb_segmentation_map = true;
    update_segment_feature_data = true;
    segment_feature_mode = true;
    quantizer_update_value = replicate 4 (pos 1);
    lf_update_value = replicate 4 (pos 2);
    segment_prob = replicate 3 3;
  };
  mb_lf_adjust = record {
    loop_filter_adj_enable = true;
    mode_ref_lf_delta_update = true;
    ref_frame_delta = replicate 4 (pos 4);
    mb_mode_delta = replicate 4 (pos 5);
  };
  coeff_prob = laid_coeffs (replicate 1056 6);
  mv_prob = laid_mv (replicate 38 7);
  mode_probs = record { intra_16x16_prob = replicate 4 8; intra_chroma_prob = replicate 3 9 };
}

-- one call: the outcome's number, what it carries, the header, the state left
pub record Seen : Type 0 where
  pub number : ℕ
  pub carried : List ℕ
  pub header : Header
  pub left : Parser

-- a frame, and what calls on the fresh parser and on the marked one show
-- an area and the probabilities of reads, the bools read, and R, whole V, count, position and bits past the end after them
pub data Case : Type 0 where
  frame : List ℕ → Seen → Seen → Case
  reads : List ℕ → List ℕ → List Bool → List ℕ → Case

abbrev pub seen : Parsed → Seen
seen r = record { number = number_of r.outcome; carried = carried_by r.outcome; header = r.header; left = r.parser }

unfoldable pub bools_of : ℕ → List ℕ → State → List Bool
bools_of l [] s = []
bools_of l (p ∷ ps) s = (read_bool l p s).got ∷ bools_of l ps (read_bool l p s).then

unfoldable pub state_after : ℕ → List ℕ → State → State
state_after l [] s = s
state_after l (p ∷ ps) s = state_after l ps (read_bool l p s).then

abbrev pub shown : ℕ → State → List ℕ
shown l s = s.r ∷ whole l s ∷ count_of s ∷ position l s ∷ past l s ∷ []

-- the case with its results as the definition gives them in a mode
unfoldable pub done : Mode → Case → Case
done md (frame f a b) = frame f (seen (call md fresh f)) (seen (call md marked f))
done md (reads area ps bs after) =
    reads area ps (bools_of (bits area) ps (start area)) (shown (bits area) (state_after (bits area) ps (start area)))

-- a refusal with what it carries, after which the state is as it was, or is reset
abbrev pub keeps : List ℕ → ℕ → List ℕ → Case
keeps f n cs =
    frame f (record { number = n; carried = cs; header = blank; left = fresh })
    (record { number = n; carried = cs; header = blank; left = marked })

abbrev pub resets : List ℕ → ℕ → List ℕ → Case
resets f n cs =
    frame f (record { number = n; carried = cs; header = blank; left = fresh })
    (record { number = n; carried = cs; header = blank; left = fresh })

-- a key frame's start code and sizes, 176 by 144, after a tag
abbrev pub key176x144 : ℕ → List ℕ
key176x144 tag = tag ∷ 0x00 ∷ 0x00 ∷ 0x9D ∷ 0x01 ∷ 0x2A ∷ 0xB0 ∷ 0x00 ∷ 0x90 ∷ 0x00 ∷ []

unfoldable pub cases : List Case
cases =
    -- 1
    keeps [] 1 []
    ∷ keeps (0x00 ∷ 0x00 ∷ []) 1 []
    -- 2
    ∷ keeps (0x00 ∷ 0x00 ∷ 0x00 ∷ []) 1 []
    -- 3
    ∷ keeps (0x00 ∷ 0x00 ∷ 0x00 ∷ 0x9D ∷ 0x01 ∷ 0x2B ∷ []) 2 (0x2B019D ∷ [])
    -- 4
    ∷ resets (key176x144 0x30) 3 (11 ∷ 10 ∷ [])
    -- 5
    ∷ resets (key176x144 0x10) 4 []
    -- 13
    ∷ reads (0x80 ∷ []) (128 ∷ []) (true ∷ []) (254 ∷ 0 ∷ 7 ∷ 1 ∷ 0 ∷ [])
    -- 14
    ∷ reads (replicate 8 0xFF) (replicate 3 128) (true ∷ true ∷ false ∷ []) (254 ∷ 3 ∷ 5 ∷ 3 ∷ 0 ∷ [])
    -- 15
    ∷ reads (0x7F ∷ []) (128 ∷ []) (false ∷ []) (128 ∷ 127 ∷ 0 ∷ 0 ∷ 0 ∷ [])
    -- 16
    ∷ reads (0x00 ∷ []) (0 ∷ []) (false ∷ []) (128 ∷ 0 ∷ 1 ∷ 7 ∷ 0 ∷ [])
    -- 17
    ∷ reads (0x00 ∷ []) (255 ∷ []) (false ∷ []) (254 ∷ 0 ∷ 0 ∷ 0 ∷ 0 ∷ [])
    -- 18
    ∷ reads (0x00 ∷ []) (replicate 10 128) (replicate 10 false) (128 ∷ 0 ∷ 7 ∷ 8 ∷ 1 ∷ [])
    ∷ []
