-- The second step of a call: what a frame's words make of the kept numbers (docs/RULES.md: what is kept, and the table of refusals).
use Rattle.std.specs.Prelude.{ℕ, ◌+◌, ◌/◌, Bool, false, List, [], ◌∷◌, ◌++◌, take, replicate, Ok, Err}
use Rattle.std.proofs.Math.Option.{Option, none, some}
use Rattle.vp8_records.specs.declared.Segmentation.{Segmentation}
use Rattle.vp8_records.specs.declared.MbLfAdjustments.{MbLfAdjustments}
use Rattle.vp8_records.specs.declared.CoeffProbs.{CoeffProbs}
use Rattle.vp8_records.specs.declared.MvProbs.{MvProbs}
use Rattle.vp8_records.specs.declared.ModeProbs.{ModeProbs}
use Rattle.vp8_records.specs.declared.Parser.{Parser}
use Rattle.vp8_records.specs.declared.Header.{Header}
use Rattle.vp8_records.specs.declared.Mode.{Mode}
use Rattle.vp8_records.specs.declared.Parsed.{Parsed}
use Rattle.vp8_records.specs.Outcome.{Outcome}
use Rattle.vp8_records.specs.declared.Refusal.TheVariants.{InvalidPartitionSize, EmptyArea, EndOfHeader}
use Rattle.vp8_records.specs.Layout.{flat_coeffs, flat_mv, laid_coeffs, laid_mv}
use Rattle.vp8_records.specs.Start.{fresh, key_modes, blank}
use Rattle.rfc6386.specs.Decoder.{pick}
use Rattle.rfc6386.specs.Runs.{or, over}
use Rattle.rfc6386.specs.Coded.{Coded, Segments, Deltas}
use Rattle.rfc6386.specs.Frame.{Chunk, pixels, scale, Snapshot, beyond, empty, read, Said, refused, follows, decode}

unfoldable pub segmented : Segments → Segmentation → Segmentation
segmented c g = record {
  segmentation_enabled = c.enabled;
  update_mb_segmentation_map = c.update_map;
  update_segment_feature_data = c.update_data;
  segment_feature_mode = or c.mode g.segment_feature_mode;
  quantizer_update_value = over c.quantizers g.quantizer_update_value;
  lf_update_value = over c.levels g.lf_update_value;
  segment_prob = over c.probs g.segment_prob;
}

unfoldable pub adjusted : Deltas → MbLfAdjustments → MbLfAdjustments
adjusted c a = record {
  loop_filter_adj_enable = c.enabled;
  mode_ref_lf_delta_update = c.update;
  ref_frame_delta = over c.frames a.ref_frame_delta;
  mb_mode_delta = over c.modes a.mb_mode_delta;
}

-- the coded probabilities over those that were kept
unfoldable pub coeffs_over : List (Option ℕ) → CoeffProbs → CoeffProbs
coeffs_over us r = laid_coeffs (over us (flat_coeffs r))

unfoldable pub mv_over : List (Option ℕ) → MvProbs → MvProbs
mv_over us r = laid_mv (over us (flat_mv r))

unfoldable pub modes_over : List (Option ℕ) → List (Option ℕ) → ModeProbs → ModeProbs
modes_over luma chroma r = record {
  intra_16x16_prob = over luma r.intra_16x16_prob;
  intra_chroma_prob = over chroma r.intra_chroma_prob;
}

-- the three groups of probabilities
pub record Probs : Type 0 where
  pub coeffs : CoeffProbs
  pub mv : MvProbs
  pub modes : ModeProbs

abbrev pub probs_of : Parser → Probs
probs_of p = record { coeffs = p.coeff_prob; mv = p.mv_prob; modes = p.mode_probs }

unfoldable pub probs_over : Coded → Probs → Probs
probs_over c q = record {
  coeffs = coeffs_over c.coeffs q.coeffs;
  mv = mv_over c.inter.motion q.mv;
  modes = modes_over c.inter.luma c.inter.chroma q.modes;
}

-- a header's own: a key frame has its own mode probabilities
abbrev pub shown : Bool → Probs → Probs
shown key q = record { coeffs = q.coeffs; mv = q.mv; modes = pick key key_modes q.modes }

abbrev pub keeping : Segmentation → MbLfAdjustments → Probs → Parser
keeping g a q = record { segmentation = g; mb_lf_adjust = a; coeff_prob = q.coeffs; mv_prob = q.mv; mode_probs = q.modes }

-- the state after a header read to its end: the coded probabilities are kept only if refresh_entropy_probs is set
unfoldable pub apply : Coded → Parser → Parser
apply c p =
    keeping (segmented c.segments p.segmentation) (adjusted c.deltas p.mb_lf_adjust)
    (pick c.refresh.entropy (probs_over c (probs_of p)) (probs_of p))

-- an empty area: the two segmentation update flags false, no more
unfoldable pub cleared : Parser → Parser
cleared p = record {
  segmentation = record {
    segmentation_enabled = p.segmentation.segmentation_enabled;
    update_mb_segmentation_map = false;
    update_segment_feature_data = false;
    segment_feature_mode = p.segmentation.segment_feature_mode;
    quantizer_update_value = p.segmentation.quantizer_update_value;
    lf_update_value = p.segmentation.lf_update_value;
    segment_prob = p.segmentation.segment_prob;
  };
  mb_lf_adjust = p.mb_lf_adjust;
  coeff_prob = p.coeff_prob;
  mv_prob = p.mv_prob;
  mode_probs = p.mode_probs;
}

-- macroblock columns of a width, or rows of a height: 16 pixels each, the last one filled up (section 2)
abbrev pub blocks : ℕ → ℕ
blocks n = (n + 15) / 16

-- the header of an accepted frame
unfoldable pub header_of : Chunk → Coded → Snapshot → List ℕ → Probs → Header
header_of k c s ss q = record {
  key_frame = k.key;
  «version» = k.version;
  show_frame = k.show;
  data_chunk_size = k.size;
  first_part_size = k.first;
  «width» = pixels k.width;
  «height» = pixels k.height;
  horiz_scale_code = scale k.width;
  vert_scale_code = scale k.height;
  color_space = c.color_space;
  clamping_type = c.clamping;
  filter_type = c.filter_type;
  loop_filter_level = c.level;
  sharpness_level = c.sharpness;
  log2_nbr_of_dct_partitions = c.log2parts;
  partition_size = take 8 (ss ++ replicate 8 0);
  quant_indices = c.quant;
  refresh_entropy_probs = c.refresh.entropy;
  refresh_last = c.refresh.last;
  refresh_golden_frame = c.refresh.golden;
  refresh_alternate_frame = c.refresh.alternate;
  copy_buffer_to_golden = c.refresh.to_golden;
  copy_buffer_to_alternate = c.refresh.to_alternate;
  sign_bias_golden = c.refresh.bias_golden;
  sign_bias_alternate = c.refresh.bias_alternate;
  coeff_prob = q.coeffs;
  mv_prob = q.mv;
  mb_no_coeff_skip = c.skips;
  prob_skip_false = c.skip_prob;
  prob_intra = c.inter.intra;
  prob_last = c.inter.last;
  prob_golden = c.inter.golden;
  mode_probs = q.modes;
  bd_range = s.range;
  bd_value = s.value;
  bd_count = s.count;
  header_size = s.position;
  «bools» = s.bools;
  mb_cols = blocks (pixels k.width);
  mb_rows = blocks (pixels k.height);
  «past» = s.past;
}

-- what a valid key-frame chunk resets to
abbrev pub reset : Chunk → Parser
reset k = fresh

-- the state that a frame starts from
abbrev pub base : Chunk → Parser → Parser
base k p = pick k.key (reset k) p

abbrev pub answer : Outcome → Header → Parser → Parsed
answer o h p = record { outcome = o; header = h; parser = p }

-- a header read to its end, over the state p
abbrev pub sized : Option (List ℕ) → Chunk → Coded → Snapshot → Parser → Parsed
sized none k c s p = answer (Err EndOfHeader) blank (apply c p)
sized (some ss) k c s p = answer (Ok tt) (header_of k c s ss (shown k.key (probs_over c (probs_of p)))) (apply c p)

abbrev pub finish : Said → Parser → Parsed
finish (refused r) p = answer (Err r) blank p
finish (follows k (beyond end length)) p = answer (Err (InvalidPartitionSize end length)) blank (base k p)
finish (follows k empty) p = answer (Err EmptyArea) blank (base k (cleared p))
finish (follows k (read c s ss)) p = sized ss k c s (base k p)

-- one call
unfoldable pub call : Mode → Parser → List ℕ → Parsed
call md p f = finish (decode md f) p

-- what one call asks: a frame, and whose reading of it
pub record Asked : Type 0 where
  pub mode : Mode
  pub frame : List ℕ

abbrev pub called : Parser → Asked → Parsed
called p x = call x.mode p x.frame

-- any calls: the answer of each, and the state after all
unfoldable pub calls : Parser → List Asked → List Parsed
calls p [] = []
calls p (x ∷ xs) = called p x ∷ calls (called p x).parser xs

unfoldable pub after : Parser → List Asked → Parser
after p [] = p
after p (x ∷ xs) = after (called p x).parser xs
