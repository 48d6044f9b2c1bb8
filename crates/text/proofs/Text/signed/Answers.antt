-- By the sign: the minus is put first where there is one, and the digits are those of the size.
use Prim.Native.Nat.{ℕ}
use native.Mathlib.Omega.{arith}
use mathlib.Core.Path.{◌≡◌, ap, sym, ◌∙◌}
use lib.IntN.{ℤ, pos, negsuc, nat_abs}
use mathlib.Core.Bool.{true, false}
use lib.Signed.{lt_z}
use mir.Syntax.{w32}
use mir.Facts.{to_z-of_z}
use borrow.Author.Tests.{ltb-true}
use Rattle.text.specs.Text.{Text, put, puts}
use Rattle.text.specs.Told.{told}
use Rattle.text.specs.Digits.{decimal_of, signed_of}
use Rattle.text.proofs.Puts.{puts_cons}
use Rattle.text.proofs.Text.signed.Goals.{then-z-lt0, else-z-lt0}
use Rattle.text.proofs.Text.signed.Goals as goal

negative : (z : ℤ) (n : ℕ) (t u v : Text) → lt_z z (pos 0) ≡ true → n ≡ nat_abs z → u ≡ put t 45 → v ≡ puts u (decimal_of n)
    → v ≡ puts t (signed_of z)
unfolding signed_of
negative (pos k) n t u v h m e d = absurd (omega (arith, ltb-true k 0 h))
negative (negsuc k) n t u v h m e d = rw (m, e) at d ∙ sym (puts_cons t 45 _)

other : (z : ℤ) (n : ℕ) (t u v : Text) → lt_z z (pos 0) ≡ false → n ≡ nat_abs z → u ≡ t → v ≡ puts u (decimal_of n)
    → v ≡ puts t (signed_of z)
unfolding signed_of
other (pos k) n t u v h m e d = rw (m, e) at d
other (negsuc k) n t u v h m e d = cc

pub returns : goal.returns
returns g c =
    let read = to_z-of_z {w = w32} c.ranges.z in
    let view = told g.B.Buffer.place g.B.AsSlice.items in
    let size = c.from.ensures ∙ c.unsigned_abs.ensures.value ∙ ap nat_abs read in
    elim c.if-z-lt0.branch [
      | then-z-lt0 w ↦ negative c.args.z _ _ _ _ (rw read at w.if-z-lt0.true) size (ap view w.self-is ∙ w.byte.ensures) c.decimal.ensures
      | else-z-lt0 w ↦ other c.args.z _ _ _ _ (rw read at w.if-z-lt0.false) size (ap view w.self-is) c.decimal.ensures
    ]
