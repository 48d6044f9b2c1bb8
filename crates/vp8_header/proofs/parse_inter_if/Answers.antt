-- The reads under a flag; with nothing coded the records stay, since a record is its own numbers laid out again.
use native.Mathlib.Omega.{arith}
use mathlib.Core.Path.{◌≡◌, sym, ap, ◌∙◌}
use mathlib.Core.List.{List, [], append-nil}
use Prim.Native.Nat.{ℕ}
use Rattle.vp8_records.proofs.Typed.{mv}
use Rattle.vp8_records.specs.declared.MvProbs.{MvProbs}
use Rattle.vp8_records.specs.Layout.{flat_mv, laid_mv}
use Rattle.vp8_records.specs.Shape.{SizedMv}
use Rattle.vp8_records.proofs.Parts as Parts
use Rattle.rfc6386.specs.Runs.{over}
use Rattle.rfc6386.specs.Call.{mv_over, modes_over}
use Rattle.bool_decoder.proofs.Chain.{upto}
use Rattle.bool_decoder.proofs.Steps.{done}
use Rattle.bool_decoder.proofs.Made.{make_on, make_off, same, worth}
use Rattle.vp8_header.specs.Stages.{inter_of}
use Rattle.vp8_header.proofs.parse_inter_if.Goals as goal

stays : (r : MvProbs) → SizedMv r → mv_over [] r ≡ r
unfolding mv_over over
stays r h = ap (λ (xs : List ℕ). laid_mv xs) (sym (append-nil (flat_mv r))) ∙ (Parts.mv).back r h []

pub returns-then-on : goal.returns-then-on
returns-then-on c = same (make_on _ _ _ c.if-on.true) c.parse_inter.ensures

pub returns-else-on : goal.returns-else-on
unfolding inter_of modes_over over
returns-else-on c = worth (λ i. record {
  prob_intra = 0;
  prob_last = 0;
  prob_golden = 0;
  mode_probs = c.args.modes;
  mv_prob = stays c.args.mv (mv c.args.mv _ c.well_formed.1.1.1.0) i;
})
    (upto (omega arith) (same (make_off _ _ _ c.if-on.false) done))
