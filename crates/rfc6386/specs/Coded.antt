-- The frame header's coded fields, and the tree that reads them: RFC 6386 section 19.2, in parser.rs' order, whatever the parser kept.
-- A run of options is empty where its group is not coded, and has `none` where a value of a coded group is not.
use Rattle.std.specs.Prelude.{ℕ, zero, suc, ◌*◌, Bool, true, false, not, ◌&&◌, List, [], ℤ, pos}
use Rattle.std.proofs.Math.Option.{Option, none, some}
use Rattle.vp8_probs.specs.Tables.{coeff_update, mv_update}
use Rattle.vp8_records.specs.declared.Mode.{Mode}
use Rattle.vp8_records.specs.declared.Mode.TheVariants.{Rust, Standard}
use Rattle.vp8_records.specs.declared.QuantIndices.{QuantIndices}
use Rattle.rfc6386.specs.Reads.{Rd, ret, ◌>>=◌, flag, when, lit, sint, make, times, each, maybe, or_else}

-- section 9.3
pub record Segments : Type 0 where
  pub enabled : Bool
  pub update_map : Bool
  pub update_data : Bool
  pub mode : Option Bool
  pub quantizers : List (Option ℤ)
  pub levels : List (Option ℤ)
  pub probs : List (Option ℕ)

-- the feature data alone
pub record Features : Type 0 where
  pub mode : Option Bool
  pub quantizers : List (Option ℤ)
  pub levels : List (Option ℤ)

-- n values anew, each x where its own flag is clear
unfoldable pub anew : {A : Type 0} → ℕ → Rd A → A → Rd (List (Option A))
anew n m x = times n (make some (or_else m x))

unfoldable pub features : Rd Features
features = do
  mode ← flag
  q ← anew 4 (sint 7) (pos 0)
  l ← anew 4 (sint 6) (pos 0)
  ret (record { mode = some mode; quantizers = q; levels = l })

abbrev pub no_features : Features
no_features = record { mode = none; quantizers = []; levels = [] }

-- whether the probabilities are coded: where the map is; to the Rust only where the data are too (D1)
abbrev pub mapped : Mode → Bool → Bool → Bool
mapped Rust m d = m && d
mapped Standard m d = m

unfoldable pub segments : Mode → Rd Segments
segments md = do
  e ← flag
  m ← when e flag false
  d ← when e flag false
  f ← when d features no_features
  p ← when (mapped md m d) (anew 3 (lit 8) 255) []
  ret (record { enabled = e; update_map = m; update_data = d; mode = f.mode; quantizers = f.quantizers; levels = f.levels; probs = p })

-- section 9.4
pub record Deltas : Type 0 where
  pub enabled : Bool
  pub update : Bool
  pub frames : List (Option ℤ)
  pub modes : List (Option ℤ)

unfoldable pub deltas : Rd Deltas
deltas = do
  e ← flag
  u ← when e flag false
  f ← when u (times 4 (maybe 128 (sint 6))) []
  m ← when u (times 4 (maybe 128 (sint 6))) []
  ret (record { enabled = e; update = u; frames = f; modes = m })

-- section 9.6
unfoldable pub quant : Rd QuantIndices
quant = do
  q ← lit 7
  a ← or_else (sint 4) (pos 0)
  b ← or_else (sint 4) (pos 0)
  c ← or_else (sint 4) (pos 0)
  d ← or_else (sint 4) (pos 0)
  e ← or_else (sint 4) (pos 0)
  ret (record { y_ac_qi = q; y_dc_delta = a; y2_dc_delta = b; y2_ac_delta = c; uv_dc_delta = d; uv_ac_delta = e })

-- sections 9.7, 9.8 and 19.2
pub record Refresh : Type 0 where
  pub golden : Bool
  pub alternate : Bool
  pub to_golden : ℕ
  pub to_alternate : ℕ
  pub bias_golden : Bool
  pub bias_alternate : Bool
  pub entropy : Bool
  pub last : Bool

-- a key frame refreshes all three buffers and codes only what is kept of its probabilities
unfoldable pub refresh : Bool → Rd Refresh
refresh true = do
  e ← flag
  ret
      (record {
        golden = true;
        alternate = true;
        to_golden = 0;
        to_alternate = 0;
        bias_golden = false;
        bias_alternate = false;
        entropy = e;
        last = true;
      })
refresh false = do
  g ← flag
  a ← flag
  tg ← when (not g) (lit 2) 0
  ta ← when (not a) (lit 2) 0
  bg ← flag
  ba ← flag
  e ← flag
  l ← flag
  ret (record { golden = g; alternate = a; to_golden = tg; to_alternate = ta; bias_golden = bg; bias_alternate = ba; entropy = e; last = l })

-- section 13.4
unfoldable pub coefficients : Rd (List (Option ℕ))
coefficients = each (λ p. maybe p (lit 8)) coeff_update

-- section 17.2: 7 bits, of which 0 stands for 1 and all else for twice the value
abbrev pub mv_of : ℕ → ℕ
mv_of zero = 1
mv_of (suc n) = suc n * 2

unfoldable pub motion : Rd (List (Option ℕ))
motion = each (λ p. maybe p (make mv_of (lit 7))) mv_update

-- section 9.10: what an inter frame codes last
pub record Inter : Type 0 where
  pub intra : ℕ
  pub last : ℕ
  pub golden : ℕ
  pub luma : List (Option ℕ)
  pub chroma : List (Option ℕ)
  pub motion : List (Option ℕ)

-- n probabilities where their common flag is set
unfoldable pub modes : ℕ → Rd (List (Option ℕ))
modes n = flag >>= (λ b. when b (times n (make some (lit 8))) [])

unfoldable pub inter : Rd Inter
inter = do
  i ← lit 8
  l ← lit 8
  g ← lit 8
  y ← modes 4
  c ← modes 3
  m ← motion
  ret (record { intra = i; last = l; golden = g; luma = y; chroma = c; motion = m })

abbrev pub no_inter : Inter
no_inter = record { intra = 0; last = 0; golden = 0; luma = []; chroma = []; motion = [] }

pub record Coded : Type 0 where
  pub color_space : Bool
  pub clamping : Bool
  pub segments : Segments
  pub filter_type : Bool
  pub level : ℕ
  pub sharpness : ℕ
  pub deltas : Deltas
  pub log2parts : ℕ
  pub quant : QuantIndices
  pub refresh : Refresh
  pub coeffs : List (Option ℕ)
  pub skips : Bool
  pub skip_prob : ℕ
  pub inter : Inter

-- section 19.2; a field that is not read is 0 or false
unfoldable pub header : Mode → Bool → Rd Coded
header md key = do
  cs ← when key flag false
  ct ← when key flag false
  sg ← segments md
  ft ← flag
  ll ← lit 6
  sh ← lit 3
  ds ← deltas
  lp ← lit 2
  q ← quant
  rf ← refresh key
  co ← coefficients
  sk ← flag
  sp ← when sk (lit 8) 0
  it ← when (not key) inter no_inter
  ret
      (record {
        color_space = cs;
        clamping = ct;
        segments = sg;
        filter_type = ft;
        level = ll;
        sharpness = sh;
        deltas = ds;
        log2parts = lp;
        quant = q;
        refresh = rf;
        coeffs = co;
        skips = sk;
        skip_prob = sp;
        inter = it;
      })
