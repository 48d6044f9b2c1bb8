-- The promise: whatever is read over one area, in whatever order, past its end too, values, position, bits past the end, snapshot and
-- count are the definition's. A walk is any sequence of reads, each of which met its contract and may depend on what came before. By
-- induction on the walk.
use mathlib.Core.Path.{◌≡◌, sym, ap, ◌∙◌}
use mathlib.Core.List.{List}
use denote.Ref.{Bor}
use Prim.Native.Nat.{ℕ, ◌+◌}
use Rattle.rfc6386.specs.Decoder.{State, Out, bits, start, whole, count_of, position, past}
use Rattle.rfc6386.specs.Reads.{Rd, ret, ◌>>=◌, run}
use Rattle.rfc6386.specs.Reach.{Reach}
use Rattle.rfc6386.proofs.Reach.{state_reach}
use Rattle.bool_decoder.specs.Engine.{out}
use Rattle.bool_decoder.specs.Model.{state_of, bools_of, position_of, past_of, Ran, Fresh, Seen}
use Rattle.bool_decoder.specs.declared.BoolDecoder.{BoolDecoder}
use Rattle.bool_decoder.specs.declared.BoolDecoderState.{BoolDecoderState}
use Rattle.bool_decoder.proofs.Steps.{moved, then, done}

-- reads of bools, literals or anything else that met its contract, one after the other, with at most n bools in all
pub data Walk {A : Type 0} : Rd A → BoolDecoder → A → BoolDecoder → ℕ → Type 1 where
  stop : {a : A} {d : BoolDecoder} → Walk (ret a) d a d 0
  read : {B : Type 0} {m : Rd B} (f : B → Rd A) {d d₁ d₂ : BoolDecoder} {b : B} {a : A} {k n : ℕ}
      → Ran m d b d₁ k → Walk (f b) d₁ a d₂ n → Walk (m >>= f) d a d₂ (k + n)

pub reads_agree : {A : Type 0} {m : Rd A} {d : BoolDecoder} {a : A} {d' : BoolDecoder} {n : ℕ} → Walk m d a d' n → Ran m d a d' n
reads_agree stop = done
reads_agree (read f q w) = then f q (reads_agree w)

-- what the outside sees after the tree m over an area: its value a, the decoder's bools, a position, q bits past the end and a snapshot
pub record Agrees {A : Type 0} (m : Rd A) (area : List ℕ) (a : A) (d : BoolDecoder) (at q : ℕ) (seen : BoolDecoderState) : Type 0 where
  pub value : a ≡ (run m (bits area) (start area)).got
  pub bools : bools_of d ≡ (run m (bits area) (start area)).then.n
  pub place : at ≡ position (bits area) (run m (bits area) (start area)).then
  pub past_end : q ≡ past (bits area) (run m (bits area) (start area)).then
  pub range : seen.range ≡ (run m (bits area) (start area)).then.r
  pub whole_v : seen.value ≡ whole (bits area) (run m (bits area) (start area)).then
  pub count : seen.count ≡ count_of (run m (bits area) (start area)).then

-- `at`, q and `seen` are what pos, past and snapshot answer of the last decoder
pub promise : {A : Type 0} {m : Rd A} {area : Bor (List ℕ)} {d : BoolDecoder} {a : A} {d' : BoolDecoder} {n : ℕ}
    → Fresh area d → Walk m d a d' n → {at : ℕ} → at ≡ position_of d' → {q : ℕ} → q ≡ past_of d'
    → {seen : BoolDecoderState} → Seen d' seen → Agrees m area.now a d' at q seen
promise {A} {m} {area} {d} {a} {d'} f w at beyond see =
    let p = moved f.over (reads_agree w) in
    let l : bits d'.area.now ≡ bits area.now = ap (λ (b : Bor (List ℕ)). bits b.now) p.over in
    let e : out a (state_of d') ≡ run m (bits area.now) (start area.now) = sym p.is ∙ ap (run m (bits area.now)) f.state in
    let s : state_of d' ≡ (run m (bits area.now) (start area.now)).then = ap (λ (o : Out A). o.then) e in
    record {
      value = ap (λ (o : Out A). o.got) e;
      bools = ap (λ (s : State). s.n) s;
      place = at ∙ (λ i. position (l i) (s i));
      past_end = beyond ∙ (λ i. past (l i) (s i));
      range = see.range ∙ ap (λ (s : State). s.r) s;
      whole_v = see.value ∙ (λ i. whole (l i) (s i));
      count = see.count ∙ ap count_of s;
    }

-- so the two numbers that code tells are together the doublings, and either of them tells whether the end was passed
pub promise_reach : {A : Type 0} {m : Rd A} {area : List ℕ} {a : A} {d : BoolDecoder} {at q : ℕ} {seen : BoolDecoderState}
    → Agrees m area a d at q seen → Reach (bits area) (run m (bits area) (start area)).then.c at q
promise_reach {m = m} {area = area} p =
    rw (p.place, p.past_end) (state_reach (bits area) (run m (bits area) (start area)).then)
