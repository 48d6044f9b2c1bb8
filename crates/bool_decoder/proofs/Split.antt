-- Reading a literal in parts is reading it whole, of the code and by its contracts alone: the parts meet the contract of the whole, by the
-- law of trees, and a contract leaves one answer. Refusals go by those of the definition, part by part.
use Prim.Native.Nat.{ℕ, zero, suc, ◌+◌, ◌^◌, ◌≤◌, ◌<◌}
use native.Mathlib.Omega.{arith}
use mathlib.Core.Path.{◌≡◌, refl, ap, sym, ◌∙◌, subst}
use mathlib.Core.Logic.{◌↔◌}
use mathlib.Core.Bool.{Bool, true, false, ◌&&◌, and-false}
use mathlib.Core.List.{List, ◌∷◌}
use lib.Arith.{digits_lt}
use lib.Dec.{ltb, lit<}
use lib.ListN.{length}
use lib.Pow.{pow-add, high, low}
use borrow.Author.Tests.{le-ltb}
use denote.Ref.{Bor}
use Rattle.std.specs.Prelude.{Option, Some, None, Result, Ok, Err}
use Rattle.rfc6386.specs.Decoder.{Out, bits, past, pick}
use Rattle.rfc6386.specs.Frame.{sum}
use Rattle.rfc6386.specs.Reads.{run, lit_from, lit}
use Rattle.rfc6386.specs.Split.{beside, together, parted, lit_refusal, or_next, parts_refusal, Halfway}
use Rattle.rfc6386.proofs.Trees.{lit_small}
use Rattle.rfc6386.proofs.Limits.{within}
use Rattle.rfc6386.proofs.Split.{run_split, lit_bools, ways, ways_of, halfway}
use Rattle.bool_decoder.specs.Engine.{Engine, bools_of, out, Good, Ran, Lit}
use Rattle.bool_decoder.specs.Model as D
use Rattle.bool_decoder.specs.Model.{over, state_of, past_of, Passed, Shows}
use Rattle.bool_decoder.specs.Refusal.{number_of, refused_by}
use Rattle.bool_decoder.specs.Answer.{answered, UintMeets}
use Rattle.bool_decoder.specs.Split.{Parts, none, next, LiteralParts, UintParts, ended, goes, stops, parts_number, whole_answer}
use Rattle.bool_decoder.specs.Split as S
use Rattle.bool_decoder.specs.declared.BoolDecoder.{BoolDecoder}
use Rattle.bool_decoder.specs.declared.BoolDecoderState.{BoolDecoderState}
use Rattle.bool_decoder.specs.declared.Read.{Read}
use Rattle.bool_decoder.specs.declared.ReadRefusal.{ReadRefusal}
use Rattle.bool_decoder.specs.declared.ReadRefusal.TheVariants.{EmptyArea, AreaTooLong, TooWide, TooManyBools}
use Rattle.bool_decoder.proofs.Chain.{done}
use Rattle.bool_decoder.proofs.Steps.{moved}
use Rattle.bool_decoder.proofs.Same.{same_literal, same_passed, same_uint_answer, same_position, same_past, same_seen}

module _ {E : Engine} {area : List ℕ} where
  -- what was read of a literal's tree is below 2 ^ w
  lit_of : {w : ℕ} {d e : E.Dec} {v : ℕ} → Ran E (lit w) area d v e w → Lit E area w d v e
  lit_of {w} {d} p = record { ran = p; small = rw p.is at (lit_small w (bits area) (E.state_of area d)) }

  -- a literal counts its bools
  pub counts : {w : ℕ} {d e : E.Dec} {v : ℕ} → Lit E area w d v e → bools_of E area e ≡ bools_of E area d + w
  counts {w} {d} p = sym (ap (λ (o : Out ℕ). o.then.n) p.ran.is) ∙ lit_bools w (bits area) (E.state_of area d)

  -- two parts meet the contract of the whole
  pub whole_of_two : {a b : ℕ} {d d₁ d₂ : E.Dec} {y z : ℕ}
      → Lit E area a d y d₁ → Lit E area b d₁ z d₂ → Lit E area (a + b) d (beside b y z) d₂
  whole_of_two {a} {b} {d} {y = y} p q =
      let second : Out ℕ → Out ℕ = λ o. run (lit b) (bits area) o.then in
      record {
        ran =
            record {
              is =
                  run_split a b (bits area) (E.state_of area d)
                  ∙ ap (λ (o : Out ℕ). out (beside b o.got (second o).got) (second o).then) p.ran.is
                  ∙ ap (λ (o : Out ℕ). out (beside b y o.got) o.then) q.ran.is;
              over = q.ran.over;
              most = omega (arith, p.ran.most, q.ran.most);
            };
        small = rw (pow-add 2 a b) (digits_lt p.small q.small);
      }

  -- and any number of them
  pub whole_of : {ws : List ℕ} {d : E.Dec} {vs : List ℕ} {e : E.Dec} → E.Over area d → Parts E area ws d vs e
      → Lit E area (sum ws) d (together ws vs) e
  unfolding sum together lit lit_from
  whole_of o none = record { ran = done o; small = lit< tt }
  whole_of o (next p ps) = whole_of_two p (whole_of p.ran.over ps)

  -- the parts are told by the whole's value
  pub parts_of : {ws : List ℕ} {d : E.Dec} {vs : List ℕ} {e : E.Dec} → E.Over area d → Parts E area ws d vs e
      → parted ws (together ws vs) ≡ vs
  unfolding together parted
  parts_of o none = refl
  parts_of o (next {ws = ws} {v = v} {vs = vs} p ps) =
      let small = (whole_of p.ran.over ps).small in
      let top = high v (sum ws) small in
      let rest = ap (parted ws) (low v (sum ws) small) ∙ parts_of p.ran.over ps in
      λ i. top i ∷ rest i

  -- where there is room for a bools and then for b there is for a + b; the other way round by `fewer` and `after`
  pub room_whole : {a b : ℕ} {d d₁ : E.Dec} {y : ℕ} → E.Over area d → Lit E area a d y d₁ → Good E area d₁ b → Good E area d (a + b)
  room_whole o p g = record { over = o; room = omega (arith, counts p, g.room) }

-- what is shown of one decoder is one answer
shows_same : {d e : BoolDecoder} {at x n at' x' n' : ℕ} {r r' : BoolDecoderState}
    → d ≡ e → Shows d at x r n → Shows e at' x' r' n' → (at ≡ at') × (x ≡ x') × (r ≡ r') × (n ≡ n')
shows_same {d} {e} same s t =
    let u = rw same at s in (
      same_position e u.place t.place,
      same_past e u.past_end t.past_end,
      same_seen u.seen t.seen,
      u.bools ∙ sym t.bools,
    )

-- a literal of a decoder is one over an area that is its own
lit_moved : {at : Bor (List ℕ)} {w v : ℕ} {d e : BoolDecoder} → d.area ≡ at → D.Lit w d v e → Lit (over at) at.now w d v e
lit_moved {w = w} {v = v} {d = d} {e = e} same p = subst (λ (at : Bor (List ℕ)). Lit (over at) at.now w d v e) same p

parts_moved : {at : Bor (List ℕ)} {ws : List ℕ} {d : BoolDecoder} {vs : List ℕ} {e : BoolDecoder} → d.area ≡ at → LiteralParts ws d vs e
    → Parts (over at) at.now ws d vs e
parts_moved same S.none = none
parts_moved same (S.next p ps) = next (lit_moved same p) (parts_moved (p.ran.over ∙ same) ps)

-- `read_literal`: whatever its contract lets it answer of a + b bools, and of a and then of b, value and decoder are equal
module _ {d : BoolDecoder} where
  pub literal_split : {a b x y z : ℕ} {r p q : BoolDecoder} → D.Lit (a + b) d x r → D.Lit a d y p → D.Lit b p z q
      → (x ≡ beside b y z) × (r ≡ q)
  literal_split whole first second = same_literal whole (whole_of_two first (lit_moved first.ran.over second))

  -- and so is what the decoder shows
  pub literal_shows : {a b v y z : ℕ} {r p q : BoolDecoder} {at x n at' x' n' : ℕ} {seen seen' : BoolDecoderState}
      → D.Lit (a + b) d v r → D.Lit a d y p → D.Lit b p z q → Shows r at x seen n → Shows q at' x' seen' n'
      → (at ≡ at') × (x ≡ x') × (seen ≡ seen') × (n ≡ n')
  literal_shows whole first second = shows_same (literal_split whole first second).1

  -- any number of parts, either way
  pub literal_parts : {ws vs : List ℕ} {v : ℕ} {r e : BoolDecoder} → D.Lit (sum ws) d v r → LiteralParts ws d vs e
      → (v ≡ together ws vs) × (r ≡ e)
  literal_parts whole ps = same_literal whole (whole_of refl (parts_moved refl ps))

  pub literal_parted : {ws vs : List ℕ} {v : ℕ} {r e : BoolDecoder} → D.Lit (sum ws) d v r → LiteralParts ws d vs e → vs ≡ parted ws v
  literal_parted {ws} whole ps =
      sym (parts_of refl (parts_moved refl ps)) ∙ ap (parted ws) (sym (literal_parts whole ps).0)

-- `read_uint`: its reads are literals, and the refusal of a row of them is the definition's
some_number : (x : ReadRefusal) → 0 < number_of x
some_number EmptyArea = lit< tt
some_number AreaTooLong = lit< tt
some_number TooWide = lit< tt
some_number TooManyBools = lit< tt

reads : {at : Bor (List ℕ)} {ws : List ℕ} {d : BoolDecoder} {vs : List ℕ} {n : Option ReadRefusal} {e : BoolDecoder} → d.area ≡ at
    → parts_number n ≡ 0 → UintParts ws d vs n e → Parts (over at) at.now ws d vs e
reads same z ended = none
reads same z (goes m ps) = next (lit_of (moved same m.read.ran)) (reads (m.read.ran.over ∙ same) z ps)
reads same z (stops {x = x} m) = absurd (omega (arith, z, some_number x))

refuses : {ws : List ℕ} {d : BoolDecoder} {vs : List ℕ} {n : Option ReadRefusal} {e : BoolDecoder} → UintParts ws d vs n e
    → parts_refusal (length d.area.now) ws d.window.bools ≡ parts_number n
unfolding parts_refusal
refuses ended = refl
refuses {d = d} (goes {ws = ws} {d₁ = d₁} m ps) =
    let r = m.read.ran in
    rw m.free (ap (parts_refusal (length d.area.now) ws) (sym (counts (lit_of r)))
    ∙ ap (λ (at : Bor (List ℕ)). parts_refusal (length at.now) ws d₁.window.bools) (sym r.over)
    ∙ refuses ps)
refuses {d = d} (stops {w = w} {ws = ws} {x = x} m) = refused (number_of x) m.0.is m.0.some
  where
    refused : (n : ℕ) → n ≡ lit_refusal (length d.area.now) w d.window.bools → 0 < n
        → or_next (lit_refusal (length d.area.now) w d.window.bools) (parts_refusal (length d.area.now) ws (d.window.bools + w)) ≡ n
    refused zero e h = absurd (omega (arith, h))
    refused (suc k) e h = rw (← e)

-- what the whole is answered, by what its parts gave: refused by 7 where it has more than 31 bools and its area is not too large, else as
-- the first of them that is refused, or read with all their values
pub uint_ways : {w : ℕ} {ws : List ℕ} {d : BoolDecoder} {vs : List ℕ} {n : Option ReadRefusal} {e f : BoolDecoder}
    (r : Result (Read ℕ) ReadRefusal) → UintMeets d (sum (w ∷ ws)) r f → UintParts (w ∷ ws) d vs n e
    → answered r f
    ≡ pick (ltb (length d.area.now) (2 ^ 28) && ltb 31 (sum (w ∷ ws))) (answered (Err TooWide) d) (whole_answer (w ∷ ws) vs n d e)
uint_ways {w} {ws} {d} {vs} {n} {e} {f} r m ps =
    let t = ltb (length d.area.now) (2 ^ 28) && ltb 31 (sum (w ∷ ws)) in
    let s = same_uint_answer d (sum (w ∷ ws)) r _ m (meets t n refl refl) in
    λ i. (s.0 i, s.1 i)
  where
    number : lit_refusal (length d.area.now) (sum (w ∷ ws)) d.window.bools
        ≡ pick (ltb (length d.area.now) (2 ^ 28) && ltb 31 (sum (w ∷ ws))) 7 (parts_number n)
    number = ways_of (length d.area.now) w ws d.window.bools d.over.count ∙ rw (refuses ps)

    meets : (t : Bool) (k : Option ReadRefusal) → (ltb (length d.area.now) (2 ^ 28) && ltb 31 (sum (w ∷ ws))) ≡ t → k ≡ n
        → let o = pick t (answered (Err TooWide) d) (whole_answer (w ∷ ws) vs k d e) in
        UintMeets d (sum (w ∷ ws)) o.0 o.1
    meets true k et z = (record { is = sym (rw et at number); some = lit< tt }, refl)
    meets false None et z =
        let none : parts_number n ≡ 0 = ap parts_number (sym z) in
        let ran = (whole_of refl (reads refl none ps)).ran in
        record {
          free = rw et at number ∙ none;
          read = record { ran = ran; past = ap (λ (at : Bor (List ℕ)). past (bits at.now) (state_of e)) ran.over };
        }
    meets false (Some x) et z = (record { is = ap parts_number z ∙ sym (rw et at number); some = some_number x }, refl)

-- so for widths that add up to 31 at most the two ways answer alike
pub uint_parts : {w : ℕ} {ws : List ℕ} {d : BoolDecoder} {vs : List ℕ} {n : Option ReadRefusal} {e f : BoolDecoder}
    (r : Result (Read ℕ) ReadRefusal) → sum (w ∷ ws) ≤ 31 → UintMeets d (sum (w ∷ ws)) r f → UintParts (w ∷ ws) d vs n e
    → answered r f ≡ whole_answer (w ∷ ws) vs n d e
uint_parts {w} {ws} r h m ps = uint_ways r m ps ∙ rw (le-ltb 31 (sum (w ∷ ws)) h, and-false)

module _ {a b : ℕ} {d : BoolDecoder} {p : Read ℕ} {d₁ : BoolDecoder} (first : UintMeets d a (Ok p) d₁) where
  -- two parts that are read are a read of the whole
  both : {q : Read ℕ} {e : BoolDecoder} → UintMeets d₁ b (Ok q) e → Passed (lit (a + b)) d (beside b p.value q.value) q.past e (a + b)
  both {e = e} second =
      let r = first.read.ran in
      record {
        ran = (whole_of_two (lit_of r) (lit_of (moved r.over second.read.ran))).ran;
        past = second.read.past ∙ ap (λ (at : Bor (List ℕ)). past (bits at.now) (state_of e)) r.over;
      }

  -- and up to 31 bools the whole is read then
  pub uint_split : {q : Read ℕ} (r : Result (Read ℕ) ReadRefusal) {e f : BoolDecoder} → a + b ≤ 31 → UintMeets d (a + b) r f
      → UintMeets d₁ b (Ok q) e → answered r f ≡ answered (Ok (record { value = beside b p.value q.value; past = q.past })) e
  uint_split {q} r {e} h m second =
      let few = (within (length d.area.now) a a d.window.bools first.free).few in
      let free : lit_refusal (length d.area.now) b (d.window.bools + a) ≡ 0 =
      ap (lit_refusal (length d.area.now) b) (sym (counts (lit_of first.read.ran)))
      ∙ ap (λ (at : Bor (List ℕ)). lit_refusal (length at.now) b d₁.window.bools) (sym first.read.ran.over)
      ∙ second.free in
      let number : lit_refusal (length d.area.now) (a + b) d.window.bools ≡ 0 =
      ways (length d.area.now) a b d.window.bools (omega (arith, few))
      ∙ rw (le-ltb 31 (a + b) h, and-false, first.free, free) in
      let s = same_uint_answer d (a + b) r (Ok (record { value = beside b p.value q.value; past = q.past })) m
      (record { free = number; read = both second }) in
      λ i. (s.0 i, s.1 i)

  -- where neither way is refused, value, bits past the end and decoder are equal, and what the decoder shows
  pub uint_read : {r q : Read ℕ} {e f : BoolDecoder} → UintMeets d (a + b) (Ok r) f → UintMeets d₁ b (Ok q) e
      → (r.value ≡ beside b p.value q.value) × (r.past ≡ q.past) × (f ≡ e)
  uint_read whole second = same_passed whole.read (both second)

  pub uint_shows : {r q : Read ℕ} {e f : BoolDecoder} {at x n at' x' n' : ℕ} {seen seen' : BoolDecoderState}
      → UintMeets d (a + b) (Ok r) f → UintMeets d₁ b (Ok q) e → Shows f at x seen n → Shows e at' x' seen' n'
      → (at ≡ at') × (x ≡ x') × (seen ≡ seen') × (n ≡ n')
  uint_shows whole second = shows_same (uint_read whole second).2

  -- exactly where the first part is read and the whole is refused
  pub uint_halfway : (r : Result (Read ℕ) ReadRefusal) (f : BoolDecoder) → UintMeets d (a + b) r f
      → (0 < refused_by r) ↔ Halfway (length d.area.now) a b d.window.bools
  uint_halfway r f m = rw (number r f m) (halfway (length d.area.now) a b d.window.bools first.free)
    where
      number : (r : Result (Read ℕ) ReadRefusal) (f : BoolDecoder) → UintMeets d (a + b) r f
          → refused_by r ≡ lit_refusal (length d.area.now) (a + b) d.window.bools
      number (Ok r) f m = sym m.free
      number (Err x) f m = m.0.is
