-- The definition's header tree, cut in three, with what each stage makes of the old record. proofs/Whole.antt shows that the three are
-- the definition's one.
use Rattle.std.specs.Prelude.{ℕ, Bool, false, not, List}
use Rattle.std.proofs.Math.Option.{Option}
use Rattle.vp8_records.specs.declared.Mode.{Mode}
use Rattle.vp8_records.specs.declared.QuantIndices.{QuantIndices}
use Rattle.vp8_records.specs.declared.Segmentation.{Segmentation}
use Rattle.vp8_records.specs.declared.MbLfAdjustments.{MbLfAdjustments}
use Rattle.vp8_records.specs.declared.MvProbs.{MvProbs}
use Rattle.vp8_records.specs.declared.ModeProbs.{ModeProbs}
use Rattle.rfc6386.specs.Reads.{Rd, ret, ◌>>=◌, flag, when, lit}
use Rattle.rfc6386.specs.Coded.{Segments, Deltas, Refresh, Inter, Coded, segments, deltas, quant, refresh, coefficients, inter, no_inter}
use Rattle.rfc6386.specs.Call.{segmented, adjusted, coeffs_over, mv_over, modes_over, Probs}
use Rattle.vp8_header.specs.declared.First as F
use Rattle.vp8_header.specs.declared.RefreshFlags.{RefreshFlags}
use Rattle.vp8_header.specs.declared.Second as S
use Rattle.vp8_header.specs.declared.InterFields.{InterFields}
use Rattle.vp8_header.specs.declared.Third as T

pub record FirstCoded : Type 0 where
  pub color_space : Bool
  pub clamping : Bool
  pub segments : Segments
  pub filter_type : Bool
  pub level : ℕ
  pub sharpness : ℕ

unfoldable pub first : Mode → Bool → Rd FirstCoded
first md key = do
  cs ← when key flag false
  ct ← when key flag false
  sg ← segments md
  ft ← flag
  ll ← lit 6
  sh ← lit 3
  ret (record { color_space = cs; clamping = ct; segments = sg; filter_type = ft; level = ll; sharpness = sh })

unfoldable pub first_of : Segmentation → FirstCoded → F.First
first_of g a = record {
  color_space = a.color_space;
  clamping_type = a.clamping;
  «segmentation» = segmented a.segments g;
  filter_type = a.filter_type;
  loop_filter_level = a.level;
  sharpness_level = a.sharpness;
}

pub record SecondCoded : Type 0 where
  pub deltas : Deltas
  pub log2parts : ℕ
  pub quant : QuantIndices
  pub refresh : Refresh

unfoldable pub second : Bool → Rd SecondCoded
second key = do
  ds ← deltas
  lp ← lit 2
  q ← quant
  rf ← refresh key
  ret (record { deltas = ds; log2parts = lp; quant = q; refresh = rf })

abbrev pub refresh_of : Refresh → RefreshFlags
refresh_of f = record {
  refresh_golden_frame = f.golden;
  refresh_alternate_frame = f.alternate;
  copy_buffer_to_golden = f.to_golden;
  copy_buffer_to_alternate = f.to_alternate;
  sign_bias_golden = f.bias_golden;
  sign_bias_alternate = f.bias_alternate;
  refresh_entropy_probs = f.entropy;
  refresh_last = f.last;
}

unfoldable pub second_of : MbLfAdjustments → SecondCoded → S.Second
second_of g b = record {
  mb_lf_adjust = adjusted b.deltas g;
  log2_nbr_of_dct_partitions = b.log2parts;
  quant_indices = b.quant;
  «refresh» = refresh_of b.refresh;
}

pub record ThirdCoded : Type 0 where
  pub coeffs : List (Option ℕ)
  pub skips : Bool
  pub skip_prob : ℕ
  pub inter : Inter

unfoldable pub third : Bool → Rd ThirdCoded
third key = do
  co ← coefficients
  sk ← flag
  sp ← when sk (lit 8) 0
  it ← when (not key) inter no_inter
  ret (record { coeffs = co; skips = sk; skip_prob = sp; inter = it })

unfoldable pub inter_of : ModeProbs → MvProbs → Inter → InterFields
inter_of o v t = record {
  prob_intra = t.intra;
  prob_last = t.last;
  prob_golden = t.golden;
  mode_probs = modes_over t.luma t.chroma o;
  mv_prob = mv_over t.motion v;
}

unfoldable pub third_of : Probs → ThirdCoded → T.Third
third_of q t = record {
  coeff_prob = coeffs_over t.coeffs q.coeffs;
  mb_no_coeff_skip = t.skips;
  prob_skip_false = t.skip_prob;
  «inter» = inter_of q.modes q.mv t.inter;
}

-- the three together
abbrev pub whole_of : FirstCoded → SecondCoded → ThirdCoded → Coded
whole_of a b t = record {
  color_space = a.color_space;
  clamping = a.clamping;
  segments = a.segments;
  filter_type = a.filter_type;
  level = a.level;
  sharpness = a.sharpness;
  deltas = b.deltas;
  log2parts = b.log2parts;
  quant = b.quant;
  refresh = b.refresh;
  coeffs = t.coeffs;
  skips = t.skips;
  skip_prob = t.skip_prob;
  inter = t.inter;
}

-- the probabilities in a third stage
abbrev pub probs_in : T.Third → Probs
probs_in z = record { coeffs = z.coeff_prob; mv = z.inter.mv_prob; modes = z.inter.mode_probs }
