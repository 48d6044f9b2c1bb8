-- Any two answers that a contract admits are equal. A window over an area is a function of its state, since it is what is left of V when
-- the bytes to come are taken off; and a decoder is its area, its window and a proposition. So one tree leaves one decoder.
use mathlib.Core.Path.{◌≡◌, refl, sym, ap, ◌∙◌, subst}
use mathlib.Core.Bool.{Bool}
use mathlib.Core.HLevel.{is_prop→PathP}
use mathlib.Core.List.{List}
use denote.Ref.{Bor}
use lib.Dec.{eqb, lit<}
use lib.IntN.{ℤ}
use Prim.Native.Nat.{ℕ, suc, ◌+◌, ◌-◌, ◌*◌, ◌/◌, ◌%◌, ◌^◌, ◌<◌, ◌≤◌}
use native.Mathlib.Nat.{ℕ_set, lt_of_not-le, le_antisymm, mul_assoc, mul-le-mul_left, pow-suc}
use native.Mathlib.Omega.{arith}
use lib.Pow.{pow_pos, pow_mono}
use Rattle.std.specs.Prelude.{Option, Result, Ok, Err}
use Rattle.std.specs.Coded.{le_prop}
use Rattle.rfc6386.specs.Decoder.{State, Out, bits, past, pick}
use Rattle.rfc6386.specs.Reads.{Rd, bool, lit, sint}
use Rattle.bool_decoder.specs.Engine.{Engine}
use Rattle.bool_decoder.specs.Engine as By
use Rattle.bool_decoder.specs.Window.{rest, limit_of, Over}
use Rattle.bool_decoder.specs.Window as W
use Rattle.bool_decoder.specs.Model.{state_of, position_of, past_of, Ran, Passed, Lit, Sgn, Fresh, Seen}
use Rattle.bool_decoder.specs.Refusal.{number_of, refused_by}
use Rattle.bool_decoder.specs.Answer.{Meets, Allows, Refuses, BoolMeets, UintMeets, SintMeets}
use Rattle.bool_decoder.specs.Quiet.{Seeks}
use Rattle.bool_decoder.proofs.Laws.{window_is}
use Rattle.bool_decoder.proofs.Quiet.{finds_is}
use Rattle.bool_decoder.proofs.Steps.{holder}
use Rattle.bool_decoder.specs.declared.Window.{Window}
use Rattle.bool_decoder.specs.declared.BoolDecoder.{BoolDecoder}
use Rattle.bool_decoder.specs.declared.BoolDecoderState.{BoolDecoderState}
use Rattle.bool_decoder.specs.declared.Read.{Read}
use Rattle.bool_decoder.specs.declared.ReadRefusal.{ReadRefusal}
use Rattle.bool_decoder.specs.declared.ReadRefusal.TheVariants.{EmptyArea, AreaTooLong, TooWide, TooManyBools}

-- the window that stands for a state: its value, and the whole of it
abbrev value_of : List ℕ → State → ℕ
value_of area s = (s.v * 2 ^ 56 - rest area (s.c / 8 + 8) * 2 ^ (s.c % 8)) / 2 ^ bits area

abbrev window_of : List ℕ → State → Window
window_of area s =
    record { range = s.r; limit = limit_of (value_of area s); value = value_of area s; doublings = s.c; bools = s.n }

over_is : (area : List ℕ) (w : Window) → Over area w → w ≡ window_of area (W.state_of area w)
over_is area w o =
    let s = W.state_of area w in
    let e = window_is 56 (2 ^ bits area) (s.c % 8) (rest area (s.c / 8 + 8)) s.v w.value o.holds (pow_pos (bits area)) in
    λ i. record {
      range = w.range;
      limit = (o.limit ∙ ap limit_of (sym e)) i;
      value = sym e i;
      doublings = w.doublings;
      bools = w.bools;
    }

pub same_window : {area : List ℕ} {w x : Window} → Over area w → Over area x → W.state_of area w ≡ W.state_of area x → w ≡ x
same_window {area} {w} {x} o p s = over_is area w o ∙ ap (window_of area) s ∙ sym (over_is area x p)

pub same : {d e : BoolDecoder} → d.area ≡ e.area → state_of d ≡ state_of e → d ≡ e
same {d} {e} at s =
    let o : Over d.area.now e.window = subst (λ (b : Bor (List ℕ)). Over b.now e.window) (sym at) e.over in
    let w : d.window ≡ e.window =
    same_window d.over o (s ∙ ap (λ (b : Bor (List ℕ)). W.state_of b.now e.window) (sym at)) in
    λ i. record {
      area = at i;
      window = w i;
      over = is_prop→PathP (λ j. Over (at j).now (w j)) (λ j. hlevel (le_prop, ℕ_set)) d.over e.over i;
    }

-- new
pub same_fresh : {at : Bor (List ℕ)} {d e : BoolDecoder} → Fresh at d → Fresh at e → d ≡ e
same_fresh p q = same (p.over ∙ sym q.over) (p.state ∙ sym q.state)

-- norm: one doubling more of a range that has its top bit would leave the byte
module _ (x r s : ℕ) where
  no_more : 128 ≤ x * 2 ^ r → x * 2 ^ s < 256 → s ≤ r
  no_more h l = omega (
    arith,
    lt_of_not-le {n = suc r} {m = s} (λ (g : suc r ≤ s).
        let twice : x * 2 ^ r * 2 ≤ x * 2 ^ s = rw (mul_assoc x (2 ^ r) 2, ← pow-suc 2 r) (mul-le-mul_left x (pow_mono g)) in
        omega (arith, h, l, twice)),
  )

pub same_norm : (x r s : ℕ) → (128 ≤ x * 2 ^ r) × (x * 2 ^ r < 256) → (128 ≤ x * 2 ^ s) × (x * 2 ^ s < 256) → r ≡ s
same_norm x r s p q = le_antisymm (no_more x s r q.0 p.1) (no_more x r s p.0 q.1)

-- every reader of any engine, whatever its tree
pub same_value : {E : Engine} {A : Type 0} {m : Rd A} {area : List ℕ} {d : E.Dec} {a b : A} {e f : E.Dec} {j k : ℕ}
    → By.Ran E m area d a e j → By.Ran E m area d b f k → a ≡ b
same_value {A = A} p q = ap (λ (o : Out A). o.got) (sym p.is ∙ q.is)

module _ {A : Type 0} {m : Rd A} {d : BoolDecoder} {a b : A} {e f : BoolDecoder} {j k : ℕ} where
  pub same_decoder : Ran m d a e j → Ran m d b f k → e ≡ f
  same_decoder p q = same (p.over ∙ sym q.over) (ap (λ (o : Out A). o.then) (sym p.is ∙ q.is))

  -- one law for a value and the decoder after it
  pub same_read : Ran m d a e j → Ran m d b f k → (a ≡ b) × (e ≡ f)
  same_read p q = (same_value p q, same_decoder p q)

  -- and with the bits past the end too, which follow from the decoder
  pub same_passed : {q t : ℕ} → Passed m d a q e j → Passed m d b t f k → (a ≡ b) × (q ≡ t) × (e ≡ f)
  same_passed x y =
      let same = same_decoder x.ran y.ran in
      (same_value x.ran y.ran, x.past ∙ ap (λ (e : BoolDecoder). past (bits d.area.now) (state_of e)) same ∙ sym y.past, same)

module _ {d e f : BoolDecoder} where
  -- read_bit, read_flag and flag_if
  pub same_bit : {m : Rd Bool} {b c : Bool} → Ran m d b e 1 → Ran m d c f 1 → (b ≡ c) × (e ≡ f)
  same_bit = same_read

  -- read_literal and read_byte, read_signed
  pub same_literal : {w x y : ℕ} → Lit w d x e → Lit w d y f → (x ≡ y) × (e ≡ f)
  same_literal p s = same_read p.ran s.ran

  pub same_signed : {w : ℕ} {x y : ℤ} → Sgn w d x e → Sgn w d y f → (x ≡ y) × (e ≡ f)
  same_signed p s = same_read p.ran s.ran

  -- byte_if and byte_or, sint_or
  pub same_byte : {m : Rd ℕ} {x y k : ℕ} → Ran m d x e k → Ran m d y f k → (x ≡ y) × (e ≡ f)
  same_byte = same_read

  pub same_int : {m : Rd ℤ} {x y : ℤ} {k : ℕ} → Ran m d x e k → Ran m d y f k → (x ≡ y) × (e ≡ f)
  same_int = same_read

  -- seek
  pub same_found : {t : List ℕ} {m n : Option ℕ} → Seeks t d m e → Seeks t d n f → (m ≡ n) × (e ≡ f)
  same_found p q =
      let x = (finds_is d.over p.finds).1 in
      let y = (finds_is d.over q.finds).1 in
      same_read (holder {d = d} p.area x) (holder {d = d} q.area y)

-- pos
pub same_position : (d : BoolDecoder) {r q : ℕ} → r ≡ position_of d → q ≡ position_of d → r ≡ q
same_position d p s = p ∙ sym s

-- past
pub same_past : (d : BoolDecoder) {r q : ℕ} → r ≡ past_of d → q ≡ past_of d → r ≡ q
same_past d p s = p ∙ sym s

-- snapshot
pub same_seen : {d : BoolDecoder} {r q : BoolDecoderState} → Seen d r → Seen d q → r ≡ q
same_seen p s = λ i. record {
  range = (p.range ∙ sym s.range) i;
  value = (p.value ∙ sym s.value) i;
  count = (p.count ∙ sym s.count) i;
}

-- refusals of one number are one refusal
named : ℕ → ReadRefusal
named n = pick (eqb n 4) EmptyArea (pick (eqb n 6) AreaTooLong (pick (eqb n 7) TooWide TooManyBools))

named_is : (x : ReadRefusal) → named (number_of x) ≡ x
unfolding named
named_is EmptyArea = refl
named_is AreaTooLong = refl
named_is TooWide = refl
named_is TooManyBools = refl

pub same_refusal : {x y : ReadRefusal} → number_of x ≡ number_of y → x ≡ y
same_refusal {x} {y} e = sym (named_is x) ∙ ap named e ∙ named_is y

-- check_limits
numbered : (e : ReadRefusal) → 0 < number_of e
numbered EmptyArea = lit< tt
numbered AreaTooLong = lit< tt
numbered TooWide = lit< tt
numbered TooManyBools = lit< tt

pub same_limits : (r q : Result (Unit {0}) ReadRefusal) → refused_by r ≡ refused_by q → r ≡ q
same_limits (Ok a) (Ok b) e = refl
same_limits (Ok a) (Err n) e = absurd (omega (arith, e, numbered n))
same_limits (Err n) (Ok b) e = absurd (omega (arith, e, numbered n))
same_limits (Err n) (Err l) e = ap Err (same_refusal e)

-- nothing is both refused and read
torn : {A X : Type 0} {m : Rd A} {d : BoolDecoder} {w k : ℕ} {a : A} {q : ℕ} {e : BoolDecoder} {n : ℕ}
    → Allows m d w k a q e → Refuses d w k n → X
torn p r = absurd (omega (arith, p.free, r.is, r.some))

-- every read of the bare decoder: its answer, and the decoder after it
pub same_answer : {A : Type 0} (m : Rd A) (d : BoolDecoder) (w k : ℕ) (r q : Result (Read A) ReadRefusal) {e f : BoolDecoder}
    → Meets m d w k r e → Meets m d w k q f → (r ≡ q) × (e ≡ f)
same_answer m d w k (Ok r) (Ok q) x y =
    let s = same_passed x.read y.read in
    (λ i. Ok (record { value = s.0 i; past = s.1 i }), s.2)
same_answer m d w k (Ok r) (Err n) x y = torn x y.0
same_answer m d w k (Err n) (Ok q) x y = torn y x.0
same_answer m d w k (Err n) (Err l) x y =
    (ap Err (same_refusal (x.0.is ∙ sym y.0.is)), x.1 ∙ sym y.1)

-- read_bool and read_bool_with_prob
pub same_bool_answer : (d : BoolDecoder) (p : ℕ) (r q : Result (Read Bool) ReadRefusal) {e f : BoolDecoder} → BoolMeets d p r e
    → BoolMeets d p q f → (r ≡ q) × (e ≡ f)
same_bool_answer d p = same_answer (bool p) d 1 1

-- read_uint
pub same_uint_answer : (d : BoolDecoder) (w : ℕ) (r q : Result (Read ℕ) ReadRefusal) {e f : BoolDecoder} → UintMeets d w r e
    → UintMeets d w q f → (r ≡ q) × (e ≡ f)
same_uint_answer d w = same_answer (lit w) d w w

-- read_sint
pub same_sint_answer : (d : BoolDecoder) (w : ℕ) (r q : Result (Read ℤ) ReadRefusal) {e f : BoolDecoder} → SintMeets d w r e
    → SintMeets d w q f → (r ≡ q) × (e ≡ f)
same_sint_answer d w = same_answer (sint w) d w (w + 1)
