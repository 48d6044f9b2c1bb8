-- A read of a decoder of any type, by the law of bare reads: where it leaves the decoder, and what is told of it.
use Prim.Native.Nat.{ℕ, ◌+◌}
use mathlib.Core.Path.{◌≡◌, refl, sym, ap, ◌∙◌}
use mathlib.Core.Bool.{Bool, true, false}
use mathlib.Core.List.{List, [], ◌∷◌, ◌++◌}
use lib.IntN.{ℤ}
use mir.Val.{bool_byte}
use denote.Ref.{Bor}
use Rattle.std.specs.Prelude.{Ok, Err}
use Rattle.rfc6386.specs.Decoder.{State, Out, bits, position, past}
use Rattle.rfc6386.specs.Reads.{Rd, make}
use Rattle.bool_decoder.specs.declared.Read.{Read}
use Rattle.bool_decoder.specs.declared.ReadRefusal.{ReadRefusal}
use Rattle.bool_decoder.proofs.Literal.{byte_bit}
use Rattle.bool_slow.specs.Asks.{Ask, Value, Bit, Plain, Signed, Refused, answered}
use Rattle.bool_decoder.specs.Bare.{Meets}
use Rattle.bool_slow.proofs.Tells.{meets_gives}
use Rattle.text.specs.Digits.{digits_of, decimal_of, signed_of}
use Rattle.text.specs.Template.{ascii, filled}
use Rattle.text.specs.Text.{Text, put, puts}
use Rattle.text.proofs.Puts.{one, then, worded}
use Rattle.bool_script.specs.Script.{Leaves}
use Rattle.bool_script.specs.Line.{value_text, read_text, Tells}

module _ {D A X : Type 0} (area_of : D → Bor (List ℕ)) (state_of : D → State) (f : A → Value) (m : Rd A) {d d' : D} {w k : ℕ}
    {t u : Text} where
  -- a value, by its text
  pub tells_value : {r : Read A} {x : X} {xs : List ℕ} → Meets area_of state_of m d w k (Ok r) d' → u ≡ puts t xs
      → xs ≡ value_text (f r.value)
      → Tells area_of state_of (record { width = w; wanted = k; tree = make f m }) d t (Ok x) d' u
  tells_value {r} g e same =
      let p = meets_gives area_of state_of f m d w k (Ok r) g in record {
        leaves = record { state = sym (ap (λ (o : Out Value). o.then) p.is); over = p.over };
        told = e ∙ ap (puts t) (same ∙ sym (ap (λ (o : Out Value). value_text o.got) p.is));
      }

  -- a refusal
  pub tells_refusal : {e : ReadRefusal} → Meets area_of state_of m d w k (Err e) d' → u ≡ t
      → Tells {X = X} area_of state_of (record { width = w; wanted = k; tree = make f m }) d t (Err e) d' u
  tells_refusal {e} g same =
      let p = meets_gives area_of state_of f m d w k (Err e) g in record {
        leaves = record { state = sym (ap (λ (o : Out Value). o.then) p.is); over = p.over };
        told = (same, ap (λ (o : Out Value). o.got) p.is);
      }

-- the texts of values; of a bool one digit
digit : (b : Bool) → (48 + bool_byte b) ∷ [] ≡ value_text (Bit b)
unfolding value_text decimal_of digits_of
digit true = refl
digit false = refl

pub digit_text : (b : Bool) {n : ℕ} → n ≡ bool_byte b → (48 + n) ∷ [] ≡ value_text (Bit b)
digit_text b e = ap (λ (n : ℕ). (48 + n) ∷ []) e ∙ digit b

pub bit_text : (b : Bool) {n : ℕ} → n ≡ bool_byte b → decimal_of n ≡ value_text (Bit b)
unfolding value_text
bit_text b e = ap decimal_of (e ∙ byte_bit b)

pub plain_text : (m : ℕ) {n : ℕ} → n ≡ m → decimal_of n ≡ value_text (Plain m)
unfolding value_text
plain_text m e = ap decimal_of e

pub signed_text : (z : ℤ) {y : ℤ} → y ≡ z → signed_of y ≡ value_text (Signed z)
unfolding value_text
signed_text z e = ap signed_of e

pub refused_text : (n : ℕ) → 114 ∷ decimal_of n ≡ value_text (Refused n)
unfolding value_text
refused_text n = refl

-- a refusal that is still to be told, in two pieces
pub then_refusal : {v : Value} {t u b o : Text} {k n : ℕ} → (u ≡ t) × (v ≡ Refused k) → b ≡ put u 114
    → o ≡ puts b (decimal_of n) → n ≡ k → o ≡ puts t (value_text v)
then_refusal {t = t} {n = n} told letter number is =
    let whole = then _ _ _ (114 ∷ []) _ (one _ _ _ letter) number in
    whole
    ∙ (λ i. puts (told.0 i) (114 ∷ decimal_of (is i)))
    ∙ ap (puts t) (refused_text _ ∙ sym (ap value_text told.1))

-- after it the place, and how far it is past the end
pub then_place : {D : Type 0} (area_of : D → Bor (List ℕ)) (state_of : D → State) {a : Ask} {d d' : D} (t : Text) {u v : Text} {at q : ℕ}
    → Leaves area_of state_of a d d' → u ≡ puts t (value_text (answered (area_of d).now a (state_of d)).got)
    → at ≡ position (bits (area_of d').now) (state_of d') → q ≡ past (bits (area_of d').now) (state_of d')
    → v ≡ puts u (filled (ascii ",@|+|") (at ∷ q ∷ []))
    → v ≡ puts t (read_text (bits (area_of d).now) (answered (area_of d).now a (state_of d)))
unfolding read_text
then_place area_of state_of {a} {d} {d'} t left value place beyond end =
    let l : bits (area_of d').now ≡ bits (area_of d).now = ap (λ (b : Bor (List ℕ)). bits b.now) left.over in
    worded _ _ _ _ (then _ _ _ _ _ value end)
    (ap (λ xs. value_text (answered (area_of d).now a (state_of d)).got ++ filled (ascii ",@|+|") xs)
    (λ i. (place ∙ (λ j. position (l j) (left.state j))) i ∷ (beyond ∙ (λ j. past (l j) (left.state j))) i ∷ []))
