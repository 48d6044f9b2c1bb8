-- What the caller has of an answer. Of an accepted frame the part is the whole of it, and the header's frame length is its length; of a
-- refusal the part is empty and the header blank. By the contract's equations, and the theorems about calls.
use Prim.Native.Nat.{ℕ, ◌<◌}
use native.Mathlib.Omega.{arith}
use mathlib.Core.Path.{◌≡◌, refl, ap, sym, ◌∙◌}
use mathlib.Core.List.{List, []}
use lib.ListN.{length}
use Rattle.std.specs.Prelude.{Ok, Err}
use Rattle.vp8_records.specs.declared.Header.{Header}
use Rattle.vp8_records.specs.declared.Mode.{Mode}
use Rattle.vp8_records.specs.declared.Parser.{Parser}
use Rattle.vp8_records.specs.Outcome.{Outcome, number_of}
use Rattle.vp8_records.specs.Start.{blank}
use Rattle.vp8_records.specs.Length.{length_of}
use Rattle.rfc6386.specs.Call.{call}
use Rattle.rfc6386_history.proofs.Refusals.{refused_blank}
use Rattle.vp8_frame.specs.View.{viewed, Framed}
use Rattle.vp8_frame.proofs.Lengths.{length_is}

empty : (o : Outcome) (f : List ℕ) → 0 < number_of o → viewed o f ≡ []
empty (Ok u) f h = absurd (omega (arith, h))
empty (Err r) f h = refl

module _ {md : Mode} {p : Parser} {f : List ℕ} {o : Outcome} {h : Header} {s : List ℕ} {q : Parser} (a : Framed md p f o h s q) where
  pub accepted_whole : o ≡ Ok tt → (s ≡ f) × (length_of h ≡ length s)
  accepted_whole e =
      let c : (call md p f).outcome ≡ Ok tt = sym a.says ∙ e in
      let whole : s ≡ f = a.refers ∙ ap (λ (x : Outcome). viewed x f) c in
      (whole, ap length_of a.reads ∙ length_is md p f c ∙ ap length (sym whole))

  pub refused_empty : 0 < number_of o → (s ≡ []) × (h ≡ blank)
  refused_empty z =
      let c : 0 < number_of (call md p f).outcome = rw a.says at z in
      (a.refers ∙ empty (call md p f).outcome f c, a.reads ∙ refused_blank md p f c)
