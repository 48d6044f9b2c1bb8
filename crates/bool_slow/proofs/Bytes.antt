-- The two bytes in hand, by the laws of a window of 8 + 8 bits: a bool is picked of them as of V, and a turn of the loop is one doubling of
-- the definition, after which a byte may come in.
use mathlib.Core.Path.{◌≡◌, refl, sym, ap, ◌∙◌}
use mathlib.Core.Bool.{Bool, true, false}
use mathlib.Core.List.{List}
use Prim.Native.Nat.{ℕ, zero, suc, ◌+◌, ◌-◌, ◌*◌, ◌/◌, ◌%◌, ◌^◌, ◌≤◌, ◌<◌}
use native.Mathlib.Nat.{mul_comm, mul-one, mul_assoc, pow-suc, zero-add}
use native.Mathlib.Omega.{arith}
use borrow.Author.Tests.{lt-leb, leb-true, leb-false}
use lib.Dec.{leb, lit<, lit≤}
use lib.ListN.{get_or}
use Rattle.rfc6386.specs.Decoder.{number, bits, start, double, normal, split, read_bool}
use Rattle.rfc6386.specs.Reads.{run, bool}
use Rattle.bool_decoder.specs.Window.{rest, Holds}
use Rattle.bool_decoder.specs.Engine.{out}
use Rattle.bool_decoder.proofs.Laws.{made_is, whole_is, less, shift, take_byte}
use Rattle.bool_decoder.proofs.Stream.{rest_zero, rest_step, rest_lt, more}
use Rattle.bool_decoder.proofs.Normal.{normal_high}
use Rattle.bool_decoder.proofs.Over.{top}
use Rattle.bool_decoder.proofs.Picks.{split_below, picks_one, picks_zero}
use Rattle.bool_slow.specs.declared.Hand.{Hand}
use Rattle.bool_slow.specs.Hand.{doublings_of, v_of, state_of, Held, Over, Good, Ran, Fresh}

value_is : (area : List ℕ) (d : Hand) (v : ℕ) → Held area d v → v_of area d ≡ v
unfolding v_of
value_is area d v H = made_is 8 (2 ^ bits area) d.bit_count (rest area d.input) v d.value H

held_is : (area : List ℕ) (d : Hand) (v : ℕ) → Held area d v → Held area d (v_of area d)
held_is area d v H = rw (value_is area d v H) H

-- the first two bytes
pub fresh : (area : List ℕ) (y z : ℕ) → ((i : ℕ) → get_or area i 0 < 256) → y ≡ get_or area 0 0 → z ≡ get_or area 1 0
    → Fresh area (record { input = 2; range = 255; value = y * 256 + z; bit_count = 0; bools = 0 })
unfolding start
fresh area y z bytes iy iz =
    let d : Hand = record { input = 2; range = 255; value = y * 256 + z; bit_count = 0; bools = 0 } in
    let b = 2 ^ bits area in
    let one : (0 * 256 + get_or area 0 0) * b + rest area 1 ≡ number area * 256 = more area 0 0 (omega (arith, rest_zero area)) in
    let two : (get_or area 0 0 * 256 + get_or area 1 0) * b + rest area 2 ≡ number area * 256 ^ 2 =
    more area (get_or area 0 0) 1 (rw zero-add at one) in
    let H : Held area d (number area * 256) = rw (iy, iz) (record {
      exact = omega (arith, two);
      zeros = omega arith;
      small = omega (arith, bytes 0, bytes 1);
    }) in
    record {
      over =
          record {
            bytes = bytes;
            holds = held_is area d (number area * 256) H;
            begun = lit≤ tt;
            part = lit< tt;
            low = lit≤ tt;
            high = lit< tt;
            few = lit≤ tt;
            count = lit≤ tt;
          };
      state = λ i. record { v = value_is area d (number area * 256) H i; r = 255; c = 0; n = 0 };
      none = refl;
    }

-- between reads and within one: the two bytes hold V, and the range is at most a byte
pub record Loose (area : List ℕ) (d : Hand) : Type 0 where
  pub bytes : (i : ℕ) → get_or area i 0 < 256
  pub holds : Held area d (v_of area d)
  pub begun : 2 ≤ d.input
  pub part : d.bit_count < 8
  pub some : 0 < d.range
  pub high : d.range < 256

-- here is d, which a bool was picked of, after some of its doublings; `fuel` more are enough
pub record Going (area : List ℕ) (d here : Hand) : Type 0 where
  pub fuel : ℕ
  pub loose : Loose area here
  pub enough : 128 ≤ here.range * 2 ^ fuel
  pub few : doublings_of here + fuel ≤ doublings_of d + 7
  pub room : doublings_of d ≤ 117440505
  pub bools : here.bools ≡ d.bools
  pub state : normal fuel (bits area) (state_of area here) ≡ normal 7 (bits area) (state_of area d)

module _ {area : List ℕ} {d here : Hand} (G : Going area d here) (short : here.range < 128) where
  abbrev b : ℕ
  b = 2 ^ bits area

  -- V and the two bytes, doubled
  abbrev v' : ℕ
  v' = v_of area here * 2 % (256 * b)

  abbrev w' : ℕ
  w' = here.value * 2 % 65536

  moved : Holds 8 b (here.bit_count + 1) (rest area here.input) v' w'
  moved =
      shift 8 b here.bit_count (rest area here.input) (v_of area here) here.value G.loose.holds
      (rest_lt area here.input G.loose.bytes) 1 (omega (arith, G.loose.part))

  doubles : (r : Hand) → Held area r v' → r.range ≡ here.range * 2 → doublings_of r ≡ doublings_of here + 1 → r.bools ≡ here.bools
      → state_of area r ≡ double (bits area) (state_of area here)
  unfolding double
  doubles r H er ec en = λ i. record {
    v = (value_is area r v' H ∙ ap (λ (x : ℕ). v_of area here * 2 % x) (top (bits area))) i;
    r = er i;
    c = ec i;
    n = en i;
  }

  -- one doubling less is left
  turned : (f : ℕ) → 128 ≤ here.range * 2 ^ f → doublings_of here + f ≤ doublings_of d + 7
      → normal f (bits area) (state_of area here) ≡ normal 7 (bits area) (state_of area d)
      → (r : Hand) → Held area r v' → 2 ≤ r.input → r.bit_count < 8 → r.range ≡ here.range * 2
      → doublings_of r ≡ doublings_of here + 1 → r.bools ≡ here.bools → Going area d r
  unfolding normal
  turned zero en few st r H bg pt er ec eb = absurd (omega (arith, rw mul-one at en))
  turned (suc f) en few st r H bg pt er ec eb = record {
    fuel = f;
    loose =
        record {
          bytes = G.loose.bytes;
          holds = held_is area r v' H;
          begun = bg;
          part = pt;
          some = omega (arith, G.loose.some);
          high = omega arith;
        };
    enough = rw (er, mul_assoc here.range 2 (2 ^ f), mul_comm 2 (2 ^ f), ← pow-suc 2 f) en;
    few = omega arith;
    room = G.room;
    bools = eb ∙ G.bools;
    state = rw (doubles r H er ec eb) (rw (lt-leb 128 here.range short, normal) at st);
  }

  turn : (r : Hand) → Held area r v' → 2 ≤ r.input → r.bit_count < 8 → r.range ≡ here.range * 2
      → doublings_of r ≡ doublings_of here + 1 → r.bools ≡ here.bools → Going area d r
  turn = turned G.fuel G.enough G.few G.state

  -- no byte is due
  pub stays : (here.bit_count + 1 ≡ 8 → ⊥)
      → Going area d (record {
        input = here.input;
        range = here.range * 2;
        value = here.value * 2 % 65536;
        bit_count = here.bit_count + 1;
        bools = here.bools;
      })
  stays no8 = turn _ moved G.loose.begun (omega (arith, G.loose.part)) refl (omega arith) refl

  -- a byte comes in
  pub fetches : here.bit_count + 1 ≡ 8 → (y : ℕ) → y ≡ get_or area here.input 0
      → Going area d (record {
        input = here.input + 1;
        range = here.range * 2;
        value = here.value * 2 % 65536 + y;
        bit_count = 0;
        bools = here.bools;
      })
  fetches e y is =
      let H = take_byte 8 b 0 (rest area here.input) v' w' (rw e at moved) (lit≤ tt) y (rest area (here.input + 1))
      (omega (arith, G.loose.bytes here.input)) (rw is (rest_step area here.input)) in
      turn _ (rw (mul-one y) at H) (omega (arith, G.loose.begun)) (lit< tt) refl (omega (arith, G.loose.begun)) refl

-- b is picked of d, and e is left to be doubled
pub record Picked (area : List ℕ) (d : Hand) (p : ℕ) (b : Bool) (e : Hand) : Type 0 where
  pub is : read_bool (bits area) p (state_of area d) ≡ out b (normal 7 (bits area) (state_of area e))
  pub loose : Loose area e
  pub gone : doublings_of e ≡ doublings_of d
  pub bools : e.bools ≡ d.bools + 1

module _ {area : List ℕ} {d : Hand} (G : Good area d 1) (p : ℕ) (byte : p < 256) where
  abbrev s : ℕ
  s = split d.range p

  abbrev v : ℕ
  v = v_of area d

  abbrev x : ℕ
  x = rest area d.input

  unread : x < 2 ^ bits area
  unread = rest_lt area d.input G.over.bytes

  -- whatever a bool takes off, the decoder that it leaves has d's place
  left : {b : Bool} {e : Hand} (r u : ℕ) → read_bool (bits area) p (state_of area d)
      ≡ out b (normal 7 (bits area) (record { v = u; r = r; c = doublings_of d; n = d.bools + 1 })) → 0 < r → r < 256
      → (w : ℕ) → e ≡ record { input = d.input; range = r; value = w; bit_count = d.bit_count; bools = d.bools + 1 }
      → Holds 8 (2 ^ bits area) d.bit_count x u w → Picked area d p b e
  left {b} {e} r u is some high w at H =
      let f : Hand = record { input = d.input; range = r; value = w; bit_count = d.bit_count; bools = d.bools + 1 } in
      rw at (record {
        is =
            is
            ∙ ap (λ (y : ℕ). out b (normal 7 (bits area) (record { v = y; r = r; c = doublings_of d; n = d.bools + 1 })))
            (sym (value_is area f u H));
        loose =
            record {
              bytes = G.over.bytes;
              holds = held_is area f u H;
              begun = G.over.begun;
              part = G.over.part;
              some = some;
              high = high;
            };
        gone = refl;
        bools = refl;
      })

  -- a one takes the split off, a zero makes it the range
  pub picked_one : {b : Bool} {e : Hand} → leb (s * 256) d.value ≡ b → b ≡ true
      → e ≡ record {
        input = d.input;
        range = d.range - s;
        value = d.value - s * 256;
        bit_count = d.bit_count;
        bools = d.bools + 1;
      }
      → Picked area d p b e
  picked_one t set at =
      let h : s * 256 ≤ d.value = leb-true _ _ (t ∙ set) in
      let below = split_below d.range p G.over.low byte in
      rw set (left (d.range - s) (v - s * 2 ^ bits area)
      (picks_one (bits area) p 8 d.bit_count x d.value (state_of area d) G.over.holds unread refl h) (omega arith)
      (omega (arith, G.over.high)) (d.value - s * 256) at
      (less 8 (2 ^ bits area) d.bit_count x v d.value G.over.holds unread s (omega (arith, G.over.part)) h))

  pub picked_zero : {b : Bool} {e : Hand} → leb (s * 256) d.value ≡ b → b ≡ false
      → e ≡ record { input = d.input; range = s; value = d.value; bit_count = d.bit_count; bools = d.bools + 1 }
      → Picked area d p b e
  picked_zero t clear at =
      let h : d.value < s * 256 = leb-false _ _ (t ∙ clear) in
      let narrow : d.bit_count ≤ 8 = omega (arith, G.over.part) in
      let below = split_below d.range p G.over.low byte in
      rw clear (left s v
      (picks_zero (bits area) p 8 d.bit_count x d.value (state_of area d) G.over.holds unread refl narrow h) (omega arith)
      (omega (arith, G.over.high)) d.value at G.over.holds)

module _ {area : List ℕ} {d : Hand} (G : Good area d 1) {p : ℕ} {b : Bool} {e : Hand} (P : Picked area d p b e) where
  -- seven doublings are enough for any range
  pub begin : Going area e e
  begin = record {
    fuel = 7;
    loose = P.loose;
    enough = omega (arith, P.loose.some);
    few = omega arith;
    room = omega (arith, P.gone, G.over.few, G.room);
    bools = refl;
    state = refl;
  }

  -- the range is back, and nothing more is doubled
  pub ended : {here : Hand} → Going area e here → 128 ≤ here.range → Ran (bool p) area d b here 1
  unfolding run bool
  ended {here} g h = record {
    is = P.is ∙ ap (out b) (sym g.state ∙ normal_high g.fuel (bits area) (state_of area here) h);
    over =
        record {
          bytes = G.over.bytes;
          holds = g.loose.holds;
          begun = g.loose.begun;
          part = g.loose.part;
          low = h;
          high = g.loose.high;
          few = omega (arith, g.few, P.gone, g.bools, P.bools, G.over.few);
          count = omega (arith, g.bools, P.bools, G.room);
        };
    most = omega (arith, g.bools, P.bools);
  }

-- the byte before the point is V's whole part
pub whole_part : {area : List ℕ} {d : Hand} → Over area d → d.value / 256 ≡ v_of area d / 2 ^ bits area
whole_part {area} {d} o =
    sym (whole_is 8 (2 ^ bits area) d.bit_count (rest area d.input) (v_of area d) d.value o.holds
    (rest_lt area d.input o.bytes) (omega (arith, o.part)))
