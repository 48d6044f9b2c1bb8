-- A turn passes over the zeros before the next flag that is set, and writes the number after it: `reached` and `written`; the definition's
-- reads by `leaf`.
use Prim.Native.Nat.{ℕ}
use native.Mathlib.Nat.{zero-add}
use native.Mathlib.Omega.{arith}
use mathlib.Core.Path.{◌≡◌, refl, sym, ap, ◌∙◌}
use mathlib.Core.List.{List}
use lib.ListN.{length}
use borrow.Author.Rules.{rules}
use Rattle.vp8_probs.specs.Tables.{coeff_update}
use Rattle.vp8_records.specs.declared.CoeffProbs.{CoeffProbs}
use Rattle.bool_decoder.proofs.Each.{begin, end}
use Rattle.bool_decoder.proofs.Made.{same, makes}
use Rattle.bool_decoder.proofs.Quiet.{place}
use Rattle.bool_decoder.proofs.Steps.{held, holder, passed}
use Rattle.rfc6386.specs.Coded.{coefficients}
use Rattle.rfc6386.specs.Call.{coeffs_over}
use Rattle.vp8_fields.specs.Rows.{coded}
use Rattle.vp8_fields.proofs.InPlace.{leaf}
use Rattle.vp8_fields.proofs.Turns.{flagged, reached, ended, written}
use Rattle.vp8_fields.proofs.coefficients.parse_token_prob_update.Goals as goal

pub loop-n-init : goal.loop-n-init
loop-n-init c = record { turn = begin _ c.args.dec.now.over; area = refl }

pub overflow_add-i : goal.overflow_add-i
overflow_add-i c = record { fits = omega (arith, place _ c.seek.ensures c.in-Some.is) }

pub read_byte-requires : goal.read_byte-requires
read_byte-requires c =
    let xs : length c.args.coeff_probs.v ≡ 1056 = search rules in
    let t : length c.coeff_update_probs-table.result ≡ 1056 = search rules in
    let inv = c.loop-n.invariant in
    let r = reached c.coeff_update_probs-table.ensures.0 t xs inv.area inv.turn c.seek.ensures c.in-Some.is in
    (omega arith, omega (arith, r.0.set.most, r.2.ran.most, c.requires, r.1))

pub bounds-out-i : goal.bounds-out-i
bounds-out-i c = omega (arith, place _ c.seek.ensures c.in-Some.is)

pub overflow_add-i-in-Some : goal.overflow_add-i-in-Some
overflow_add-i-in-Some c = record { fits = omega (arith, place _ c.seek.ensures c.in-Some.is) }

pub loop-n-smaller : goal.loop-n-smaller
loop-n-smaller c = omega (arith, place _ c.seek.ensures c.in-Some.is)

pub loop-n-preserved : goal.loop-n-preserved
loop-n-preserved c =
    let xs : length c.args.coeff_probs.v ≡ 1056 = search rules in
    let t : length c.coeff_update_probs-table.result ≡ 1056 = search rules in
    let inv = c.loop-n.invariant in
    let r = reached c.coeff_update_probs-table.ensures.0 t xs inv.area inv.turn c.seek.ensures c.in-Some.is in
    let area = c.seek.ensures.area ∙ inv.area in
    let n = c.read_byte.ensures.ran in
    record { turn = written coeff_update _ _ (omega (arith, r.1, xs)) r.2 r.0.set (held area n); area = n.over ∙ area }

pub returns : goal.returns
unfolding coeffs_over coefficients coeff_update
returns c =
    let xs : length c.args.coeff_probs.v ≡ 1056 = search rules in
    let t : length c.coeff_update_probs-table.result ≡ 1056 = search rules in
    let inv = c.loop-n.invariant in
    let u = ended c.coeff_update_probs-table.ensures.0 t xs inv.area inv.turn c.seek.ensures c.in_default.is in
    let wrap : List ℕ → CoeffProbs = λ v. record { v = v } in
    passed refl c.past.ensures
    (holder (c.seek.ensures.area ∙ inv.area)
    (same (leaf wrap _ coded coeff_update 0 1056 (λ i x. ap (λ (k : ℕ). flagged coeff_update k x) (sym (zero-add i))) _ xs (omega arith))
    (makes wrap (end _ u xs (omega arith)))))
