-- Any two answers that a contract admits are equal: the two bytes over an area are a function of their state, since the doublings tell
-- how many bytes have come in, and they are what is left of V when the bytes to come are taken off; and a decoder is its area, its two
-- bytes and a proposition.
use mathlib.Core.Path.{◌≡◌, sym, ap, ◌∙◌, subst}
use mathlib.Core.HLevel.{is_prop→PathP}
use mathlib.Core.List.{List}
use denote.Ref.{Bor}
use Prim.Native.Nat.{ℕ, ◌+◌, ◌-◌, ◌*◌, ◌/◌, ◌%◌, ◌^◌}
use native.Mathlib.Nat.{ℕ_set}
use native.Mathlib.Omega.{arith}
use lib.Pow.{pow_pos}
use Rattle.std.specs.Prelude.{Result, Ok, Err}
use Rattle.std.specs.Coded.{le_prop}
use Rattle.rfc6386.specs.Decoder.{State, Out, bits, past}
use Rattle.rfc6386.specs.Reads.{Rd}
use Rattle.bool_decoder.specs.Window.{rest}
use Rattle.bool_decoder.specs.declared.Read.{Read}
use Rattle.bool_decoder.specs.declared.ReadRefusal.{ReadRefusal}
use Rattle.bool_decoder.proofs.Laws.{window_is}
use Rattle.bool_decoder.proofs.Same.{same_refusal}
use Rattle.bool_slow.specs.declared.Hand.{Hand}
use Rattle.bool_slow.specs.declared.SlowDecoder.{SlowDecoder}
use Rattle.bool_slow.specs.Hand.{doublings_of, v_of, Over}
use Rattle.bool_slow.specs.Hand as H
use Rattle.bool_slow.specs.Asks.{Ask, Value, Gives}
use Rattle.bool_decoder.specs.Bare.{Meets, over}
use Rattle.bool_slow.specs.Slow.{area_of, state_of, Fresh}
use Rattle.bool_slow.specs.Slow as S
use Rattle.bool_slow.proofs.Answers.{one_given}

-- the two bytes that stand for a v, with so many bytes in and so many bits shifted out
abbrev bytes_of : List ℕ → ℕ → ℕ → ℕ → ℕ
bytes_of area v t e = (v * 2 ^ 8 - rest area t * 2 ^ e) / 2 ^ bits area

abbrev hand_of : List ℕ → State → Hand
hand_of area s = record {
  input = s.c / 8 + 2;
  range = s.r;
  value = bytes_of area s.v (s.c / 8 + 2) (s.c % 8);
  bit_count = s.c % 8;
  bools = s.n;
}

over_is : (area : List ℕ) (d : Hand) → Over area d → d ≡ hand_of area (H.state_of area d)
over_is area d o =
    let t : d.input ≡ doublings_of d / 8 + 2 = omega (arith, o.begun, o.part) in
    let e : d.bit_count ≡ doublings_of d % 8 = omega (arith, o.begun, o.part) in
    let w = window_is 8 (2 ^ bits area) d.bit_count (rest area d.input) (v_of area d) d.value o.holds (pow_pos (bits area)) in
    λ i. record {
      input = t i;
      range = d.range;
      value = (sym w ∙ (λ j. bytes_of area (v_of area d) (t j) (e j))) i;
      bit_count = e i;
      bools = d.bools;
    }

same_hand : {area : List ℕ} {d e : Hand} → Over area d → Over area e → H.state_of area d ≡ H.state_of area e → d ≡ e
same_hand {area} {d} {e} o p s = over_is area d o ∙ ap (hand_of area) s ∙ sym (over_is area e p)

pub same : {d e : SlowDecoder} → d.area ≡ e.area → state_of d ≡ state_of e → d ≡ e
same {d} {e} at s =
    let o : Over d.area.now e.hand = subst (λ (b : Bor (List ℕ)). Over b.now e.hand) (sym at) e.over in
    let h : d.hand ≡ e.hand = same_hand d.over o (s ∙ ap (λ (b : Bor (List ℕ)). H.state_of b.now e.hand) (sym at)) in
    λ i. record {
      area = at i;
      hand = h i;
      over = is_prop→PathP (λ j. Over (at j).now (h j)) (λ j. hlevel (le_prop, ℕ_set)) d.over e.over i;
    }

-- init_bool_decoder
pub same_fresh : {at : Bor (List ℕ)} {d e : SlowDecoder} → Fresh at d → Fresh at e → d ≡ e
same_fresh p q = same (p.over ∙ sym q.over) (p.state ∙ sym q.state)

-- ask_bool, ask_plain and ask_signed, of any decoder that is a function of its area and its state: the answer, and the decoder after it
module _ {D : Type 0} (area : D → Bor (List ℕ)) (state : D → State)
    (one : (d e : D) → area d ≡ area e → state d ≡ state e → d ≡ e) where
  pub one_meets : {A : Type 0} (m : Rd A) (d : D) (w k : ℕ) (r q : Result (Read A) ReadRefusal) {e f : D}
      → Meets area state m d w k r e → Meets area state m d w k q f → (r ≡ q) × (e ≡ f)
  one_meets {A} m d w k (Ok r) (Ok q) {e} {f} x y =
      let o = sym x.read.ran.is ∙ y.read.ran.is in
      let s : e ≡ f = one e f (x.read.ran.over ∙ sym y.read.ran.over) (ap (λ (p : Out A). p.then) o) in
      let v = ap (λ (p : Out A). p.got) o in
      let t : r.past ≡ q.past = x.read.past ∙ ap (λ (g : D). past (bits (area d).now) (state g)) s ∙ sym y.read.past in
      (λ i. Ok (record { value = v i; past = t i }), s)
  one_meets m d w k (Ok r) (Err n) x y = absurd (omega (arith, x.free, y.0.is, y.0.some))
  one_meets m d w k (Err n) (Ok q) x y = absurd (omega (arith, y.free, x.0.is, x.0.some))
  one_meets m d w k (Err n) (Err l) x y = (ap Err (same_refusal (x.0.is ∙ sym y.0.is)), x.1 ∙ sym y.1)

  -- any read of its engine, by what it gives alone
  pub one_gives : {at : Bor (List ℕ)} {a : Ask} {d : D} {v w : Value} {q t : ℕ} {e f : D}
      → Gives (over area state at) at.now a d v q e → Gives (over area state at) at.now a d w t f → (v ≡ w) × (q ≡ t) × (e ≡ f)
  one_gives p s =
      let same = λ (d e : D) (x : area d ≡ _) (y : area e ≡ _). one d e (x ∙ sym y) in
      (one_given (λ v q e. v) same p s, one_given (λ v q e. q) same p s, one_given (λ v q e. e) same p s)

-- of a slow decoder
pub one_answer : {A : Type 0} (m : Rd A) (d : SlowDecoder) (w k : ℕ) (r q : Result (Read A) ReadRefusal) {e f : SlowDecoder}
    → Meets area_of state_of m d w k r e → Meets area_of state_of m d w k q f → (r ≡ q) × (e ≡ f)
one_answer = one_meets area_of state_of (λ d e. same)

pub one_slow_gives : {at : Bor (List ℕ)} {a : Ask} {d : SlowDecoder} {v w : Value} {q t : ℕ} {e f : SlowDecoder}
    → Gives (S.over at) at.now a d v q e → Gives (S.over at) at.now a d w t f → (v ≡ w) × (q ≡ t) × (e ≡ f)
one_slow_gives p s = one_gives area_of state_of (λ d e. same) p s
