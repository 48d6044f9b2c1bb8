-- What a function reads of a sub-header: the definition's reads, over values or over a record that was there. The whole is the definition's
-- own.
use Rattle.std.specs.Prelude.{ℕ, Bool, List, take, drop}
use Rattle.std.proofs.Math.Option.{Option}
use Rattle.rfc6386.specs.Reads.{Rd, when, make, each, maybe, lit}
use Rattle.vp8_records.specs.declared.Segmentation.{Segmentation}
use Rattle.rfc6386.specs.Runs.{or, over}
use Rattle.rfc6386.specs.Coded.{Features, features, no_features, mv_of}

-- the feature data where they are coded
abbrev pub features_if : Bool → Rd Features
features_if on = when on features no_features

-- the feature data over a record's own
unfoldable pub featured : Features → Segmentation → Segmentation
featured f g = record {
  segmentation_enabled = g.segmentation_enabled;
  update_mb_segmentation_map = g.update_mb_segmentation_map;
  update_segment_feature_data = g.update_segment_feature_data;
  segment_feature_mode = or f.mode g.segment_feature_mode;
  quantizer_update_value = over f.quantizers g.quantizer_update_value;
  lf_update_value = over f.levels g.lf_update_value;
  segment_prob = g.segment_prob;
}

-- the values that m reads, each over the old one
abbrev pub onto : {A : Type 0} → List A → Rd (List (Option A)) → Rd (List A)
onto old m = make (λ us. over us old) m

-- a coefficient probability and a motion probability, each coded where its bool is set
abbrev pub coded : ℕ → Rd (Option ℕ)
coded p = maybe p (lit 8)

abbrev pub coded_mv : ℕ → Rd (Option ℕ)
coded_mv p = maybe p (make mv_of (lit 7))

-- the reads g of the n entries of the table t from `at` on, over the n numbers of a record: `flat` is its numbers, `laid` makes it of them
abbrev pub row_over : {A : Type 0} → (A → List ℕ) → (List ℕ → A) → ℕ → (ℕ → Rd (Option ℕ)) → List ℕ → ℕ → A → Rd A
row_over flat laid n g t at x = make (λ us. laid (over us (flat x))) (each g (take n (drop at t)))
