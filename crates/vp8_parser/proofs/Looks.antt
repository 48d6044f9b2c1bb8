-- A look and a call of running code, over one frame: what each contract says of the other, by the theorems about the definition.
use Prim.Native.Nat.{ℕ, ◌^◌, ◌<◌}
use native.Mathlib.Omega.{arith}
use mathlib.Core.Path.{◌≡◌, refl, sym, ap, ◌∙◌}
use mathlib.Core.List.{List}
use lib.ListN.{length}
use Rattle.std.specs.Prelude.{Result, Ok, Err}
use Rattle.vp8_records.specs.declared.Look.{Look}
use Rattle.vp8_records.specs.declared.Mode.{Mode}
use Rattle.vp8_records.specs.declared.Parsed.{Parsed}
use Rattle.vp8_records.specs.declared.Parser.{Parser}
use Rattle.vp8_records.specs.declared.PeekRefusal.{PeekRefusal}
use Rattle.vp8_records.specs.declared.Refusal.{Refusal}
use Rattle.vp8_records.specs.Outcome.{told}
use Rattle.vp8_records.specs.Start.{blank}
use Rattle.rfc6386.specs.Call.{answer, call}
use Rattle.rfc6386.specs.Peek.{Peek, barred, seen, peek, told_by, peek_of, Early, look_from}
use Rattle.rfc6386.proofs.Peek.{accepted_seen, barred_refused, refused_barred}
use Rattle.vp8_parser.proofs.Same.{same_look}

-- r is the look's answer, q the call's
module _
    (md : Mode) (p : Parser) (f : List ℕ) (r : Result Look PeekRefusal) (q : Parsed) (a : peek_of r ≡ peek f) (b : q ≡ call md p f) where
  -- where the call accepts, the look has its header's fields
  pub looks_header : q.outcome ≡ Ok tt → r ≡ Ok (look_from q.header)
  looks_header h =
      same_look r (Ok (look_from q.header))
      (a ∙ accepted_seen md p f (sym (ap (λ (x : Parsed). x.outcome) b) ∙ h) ∙ sym (ap (λ (x : Parsed). seen (look_from x.header)) b))

  -- where it gives 1 or 2, so does the look
  pub refused_looks : (o : Refusal) → q.outcome ≡ Err o → Early o → peek_of r ≡ barred o
  refused_looks o e h = a ∙ refused_barred md p f o (sym (ap (λ (x : Parsed). x.outcome) b) ∙ e) h

  -- and where the look refuses, so does the call
  pub looks_refused : length f < 2 ^ 28 → (o : Refusal) → peek_of r ≡ barred o → q ≡ answer (Err o) blank p
  looks_refused h o e = b ∙ barred_refused md p f h o (sym a ∙ e)

  -- so number and values are the call's, both ways
  pub refused_told : (o : Refusal) → q.outcome ≡ Err o → Early o → told_by (peek_of r) ≡ told q.outcome
  refused_told o e h = ap told_by (refused_looks o e h) ∙ sym (ap told e)

  pub looks_told : length f < 2 ^ 28 → 0 < (told_by (peek_of r)).number → told_by (peek_of r) ≡ told q.outcome
  looks_told h = go (peek_of r) refl
    where
      go : (x : Peek) → peek_of r ≡ x → 0 < (told_by x).number → told_by x ≡ told q.outcome
      go (barred o) e n = sym (ap (λ (y : Parsed). told y.outcome) (looks_refused h o e))
      go (seen l) e n = absurd (omega (arith, n))
