-- What holds at the head of the loop: the calls that are left, from the state so far, end where all of them end. A turn takes the first
-- of them, by the contract of `parse`.
use Rattle.std.proofs.Common.{◌≡◌, ℕ, suc, ◌+◌, ◌≤◌, ◌<◌, min, List, [], ◌∷◌, length, get_or, take, drop, refl, sym, ap, ◌∙◌, add-one, arith, take_all, drop_of_length-le}
use native.Mathlib.Decide.{dec_le}
use lib.Seq.{drop-cons}
use mir.Val.{bool_byte}
use Rattle.std.specs.Prelude.{Ok, Err, is_ok}
use Rattle.vp8_records.specs.declared.Mode.{Mode}
use Rattle.vp8_records.specs.declared.Parser.{Parser}
use Rattle.vp8_records.specs.declared.Parsed.{Parsed}
use Rattle.vp8_records.specs.Mode.{mode_of}
use Rattle.vp8_records.specs.Outcome.{Outcome}
use Rattle.vp8_records.specs.Shape.{Sized}
use Rattle.rfc6386.specs.Call.{Asked, call, calls, after}
use Rattle.rfc6386.specs.Fills.{cuts}
use Rattle.vp8_sequence.specs.Fold.{asked, one, accepted, Folds}

pub record Turn (p₀ : Parser) (ms ns f : List ℕ) (p : Parser) (count : ℕ) (left rest : List ℕ) (i : ℕ) : Type 0 where
  pub turns : i ≤ length ns
  pub few : count ≤ i
  pub state : after p (asked left (cuts (drop i ns) rest)) ≡ after p₀ (asked ms (cuts ns f))
  pub answers : count + accepted (calls p (asked left (cuts (drop i ns) rest))) ≡ accepted (calls p₀ (asked ms (cuts ns f)))

pub begin : (p : Parser) (ms ns f : List ℕ) → Turn p ms ns f p 0 ms f 0
begin p ms ns f = record { turns = omega arith; few = omega arith; state = refl; answers = omega arith }

-- a frame that is cut at the end of the bytes is what they have of it, and so is what is left
frame_is : (f : List ℕ) (n : ℕ) → take (min (length f) n) f ≡ take n f
frame_is f n = go (dec_le n (length f))
  where
    go : Dec (n ≤ length f) → take (min (length f) n) f ≡ take n f
    go (yes g) = let same : min (length f) n ≡ n = omega (arith, g) in ap (λ (k : ℕ). take k f) same
    go (no g) = take_all (min (length f) n) f (omega (arith, g)) ∙ sym (take_all n f (omega (arith, g)))

rest_is : (f : List ℕ) (n : ℕ) → drop (min (length f) n) f ≡ drop n f
rest_is f n = go (dec_le n (length f))
  where
    go : Dec (n ≤ length f) → drop (min (length f) n) f ≡ drop n f
    go (yes g) = let same : min (length f) n ≡ n = omega (arith, g) in ap (λ (k : ℕ). drop k f) same
    go (no g) = drop_of_length-le f {i = min (length f) n} (omega (arith, g)) ∙ sym (drop_of_length-le f {i = n} (omega (arith, g)))

-- the first of the frames that are left has the next mode
asked_first : (ms f : List ℕ) (fs : List (List ℕ)) → asked ms (f ∷ fs) ≡ record { mode = mode_of (get_or ms 0 0); frame = f } ∷ asked (drop 1 ms) fs
unfolding asked
asked_first [] f fs = refl
asked_first (m ∷ ms) f fs = refl

-- an accepted frame is counted
pub one_is : (o : Outcome) → bool_byte (is_ok o) ≡ one o
one_is (Ok u) = refl
one_is (Err r) = refl

pub one_few : (o : Outcome) → one o ≤ 1
one_few (Ok u) = omega arith
one_few (Err r) = omega arith

module _ (p : Parser) (ms ns f : List ℕ) (i : ℕ) (m : Mode) (r : Parsed) (h : i < length ns) (w : m ≡ mode_of (get_or ms 0 0))
    (q : r ≡ call m p (take (get_or ns i 0) f)) where
  abbrev rest : List Asked
  rest = asked (drop 1 ms) (cuts (drop (i + 1) ns) (drop (get_or ns i 0) f))

  -- the calls that are left are the next and those after it
  next_is : asked ms (cuts (drop i ns) f) ≡ record { mode = m; frame = take (get_or ns i 0) f } ∷ rest
  unfolding cuts
  next_is =
      let n : ℕ = get_or ns i 0 in
      ap (λ (l : List ℕ). asked ms (cuts l f)) (drop-cons ns i 0 h)
      ∙ asked_first ms (take n f) (cuts (drop (suc i) ns) (drop n f))
      ∙ (λ j. record { mode = sym w j; frame = take n f } ∷ asked (drop 1 ms) (cuts (drop (sym (add-one i) j) ns) (drop n f)))

  state_next : after p (asked ms (cuts (drop i ns) f)) ≡ after r.parser rest
  unfolding after
  state_next = ap (λ (xs : List Asked). after p xs) next_is ∙ ap (λ (x : Parsed). after x.parser rest) (sym q)

  answers_next : accepted (calls p (asked ms (cuts (drop i ns) f))) ≡ one r.outcome + accepted (calls r.parser rest)
  unfolding calls accepted
  answers_next =
      ap (λ (xs : List Asked). accepted (calls p xs)) next_is
      ∙ ap (λ (x : Parsed). one x.outcome + accepted (calls x.parser rest)) (sym q)

pub turn : {p₀ : Parser} {ms ns f : List ℕ} {p : Parser} {count : ℕ} {modes left : List ℕ} {i k : ℕ} {m : Mode} {frame others rest : List ℕ}
    {r : Parsed} → Turn p₀ ms ns f p count modes left i → i < length ns → frame ≡ take (min (length left) (get_or ns i 0)) left
    → rest ≡ drop (min (length left) (get_or ns i 0)) left → m ≡ mode_of (get_or modes 0 0) → others ≡ drop 1 modes → r ≡ call m p frame
    → k ≡ one r.outcome → Turn p₀ ms ns f r.parser (count + k) others rest (i + 1)
turn {p₀} {ms} {ns} {f} {p} {count} {modes} {left} {i} {k} {m} {frame} {others} {rest} {r} t h a b w z q o =
    let n : ℕ = get_or ns i 0 in
    let is : r ≡ call m p (take n left) = q ∙ ap (λ (x : List ℕ). call m p x) (a ∙ frame_is left n) in
    let left_is : rest ≡ drop n left = b ∙ rest_is left n in
    record {
      turns = omega arith;
      few = omega (arith, t.few, o, one_few r.outcome);
      state = rw (left_is, z) (sym (state_next p modes ns left i m r h w is) ∙ t.state);
      answers = rw (left_is, z) (omega (arith, t.answers, answers_next p modes ns left i m r h w is, o));
    }

pub ended : {p₀ : Parser} {ms ns f : List ℕ} {p : Parser} {count : ℕ} {left rest : List ℕ} {i : ℕ} → Turn p₀ ms ns f p count left rest i
    → length ns ≤ i → Sized p₀ → Folds p₀ (asked ms (cuts ns f)) p count
unfolding after calls accepted cuts asked
ended {p₀} {ms} {ns} {f} {p} {count} {left} {rest} {i} t h s =
    let none : drop i ns ≡ [] = drop_of_length-le ns h in
    record { state = rw none at t.state; count = omega (arith, rw none at t.answers); sized = s }
