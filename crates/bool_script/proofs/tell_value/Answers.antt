-- By the read: its value as text, or its refusal.
use Rattle.std.proofs.Common.{rules}
use mathlib.Core.Path.{◌≡◌, refl}
use Rattle.std.specs.Prelude.{Err}
use Rattle.bool_slow.specs.Asks.{Bit, Plain, Signed}
use Rattle.text.proofs.Puts.{one}
use Rattle.bool_script.proofs.OneRead.{tells_value, tells_refusal, digit_text, plain_text, signed_text}
use Rattle.bool_script.proofs.tell_value.Goals as goal

pub returns-in_err-ask_bool-in-Bool : goal.returns-in_err-ask_bool-in-Bool
returns-in_err-ask_bool-in-Bool g c =
    let r : c.from_residual.result ≡ Err c.in_err-ask_bool-in-Bool.field-0.0 = search rules in
    rw (c.in-Bool.is, r) (tells_refusal _ _ Bit _ c.in_err-ask_bool-in-Bool.ensures refl)

pub returns-in_ok-ask_bool-in-Bool : goal.returns-in_ok-ask_bool-in-Bool
returns-in_ok-ask_bool-in-Bool g c =
    rw c.in-Bool.is (tells_value _ _ Bit _ c.in_ok-ask_bool-in-Bool.ensures (one _ _ _ c.byte.ensures) (digit_text _ c.from.ensures))

pub returns-in_err-ask_plain-in-Plain : goal.returns-in_err-ask_plain-in-Plain
returns-in_err-ask_plain-in-Plain g c =
    let r : c.from_residual-in_err-ask_plain-in-Plain.result ≡ Err c.in_err-ask_plain-in-Plain.field-0.0 = search rules in
    rw (c.in-Plain.is, ← c.from-in-Plain.ensures, r) (tells_refusal _ _ Plain _ c.in_err-ask_plain-in-Plain.ensures refl)

pub returns-in_ok-ask_plain-in-Plain : goal.returns-in_ok-ask_plain-in-Plain
returns-in_ok-ask_plain-in-Plain g c =
    rw (c.in-Plain.is, ← c.from-in-Plain.ensures)
    (tells_value _ _ Plain _ c.in_ok-ask_plain-in-Plain.ensures c.decimal.ensures (plain_text _ c.from-in-Plain-2.ensures))

pub returns-in_err-ask_signed-in-Signed : goal.returns-in_err-ask_signed-in-Signed
returns-in_err-ask_signed-in-Signed g c =
    let r : c.from_residual-in_err-ask_signed-in-Signed.result ≡ Err c.in_err-ask_signed-in-Signed.field-0.0 = search rules in
    rw (c.in-Signed.is, ← c.from-in-Signed.ensures, r) (tells_refusal _ _ Signed _ c.in_err-ask_signed-in-Signed.ensures refl)

pub returns-in_ok-ask_signed-in-Signed : goal.returns-in_ok-ask_signed-in-Signed
returns-in_ok-ask_signed-in-Signed g c =
    rw (c.in-Signed.is, ← c.from-in-Signed.ensures)
    (tells_value _ _ Signed _ c.in_ok-ask_signed-in-Signed.ensures c.signed.ensures (signed_text _ (search rules)))
