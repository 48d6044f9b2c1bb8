-- A window over an area, from the window's laws to the contract of one bool. A read first takes the split off, or makes it the range
-- (Chosen); then the doublings are one shift, which fill does, or none.
use mathlib.Core.Path.{◌≡◌, refl, sym, ap, ◌∙◌}
use mathlib.Core.List.{List}
use mathlib.Core.Bool.{Bool, true, false}
use Prim.Native.Nat.{ℕ, ◌+◌, ◌-◌, ◌*◌, ◌/◌, ◌%◌, ◌^◌, ◌≤◌, ◌<◌}
use native.Mathlib.Nat.{mul_comm, mod-one, mul-le-mul_right}
use native.Mathlib.Omega.{arith}
use borrow.Author.Tests.{ltb-true, ltb-false}
use lib.ListN.{get_or}
use lib.Dec.{ltb, lit<, lit≤}
use lib.Pow.{pow-add, shl_exact}
use Rattle.rfc6386.specs.Decoder.{number, bits, start, normal, split, read_bool, pick}
use Rattle.rfc6386.specs.Reads.{run, bool}
use Rattle.bool_decoder.specs.Window.{rest, Holds, Held, v_of, state_of, limit_of, Over, window, Good, Ran}
use Rattle.bool_decoder.specs.Engine.{out, Fresh}
use Rattle.bool_decoder.specs.declared.Window.{Window}
use Rattle.bool_decoder.proofs.Laws.{made_is, v_below, whole_is, less, shift, take_byte}
use Rattle.bool_decoder.proofs.Normal.{normal_is, normal_high}
use Rattle.bool_decoder.proofs.Picks.{counted, picks_one, picks_zero}
use Rattle.bool_decoder.proofs.Stream.{rest_step, rest_lt}

-- the limit is 128 or more, and above the window's whole part
picked : (t : ℕ) (b : Bool) → ltb t 127 ≡ b → (128 ≤ pick b 128 (t + 1)) × (t < pick b 128 (t + 1))
picked t true e = (lit≤ tt, omega (arith, ltb-true t 127 e))
picked t false e = (omega (arith, ltb-false t 127 e), omega arith)

pub limit_low : (w : ℕ) → 128 ≤ limit_of w
unfolding limit_of
limit_low w = (picked (w / 2 ^ 56) (ltb (w / 2 ^ 56) 127) refl).0

limit_above : (w : ℕ) → w < limit_of w * 2 ^ 56
unfolding limit_of
limit_above w = omega (arith, (picked (w / 2 ^ 56) (ltb (w / 2 ^ 56) 127) refl).1)

-- the v that a window holds is the one that it makes with the bytes to come
pub value_is : (area : List ℕ) (c v w : ℕ) → Held area c v w → v_of area c w ≡ v
unfolding v_of
value_is area c v w H = made_is 56 (2 ^ bits area) (c % 8) (rest area (c / 8 + 8)) v w H

pub held_is : (area : List ℕ) (c v w : ℕ) → Held area c v w → Held area c (v_of area c w) w
held_is area c v w H = rw (value_is area c v w H) H

pub top : (l : ℕ) → 256 * 2 ^ l ≡ 2 ^ (l + 8)
top l = mul_comm 256 (2 ^ l) ∙ sym (pow-add 2 l 8)

-- the fresh one: the window is the first eight bytes
pub fresh : (area : List ℕ) (w : ℕ) → w < 256 ^ 8 → w * 2 ^ bits area + rest area 8 ≡ number area * 256 ^ 8
    → ((i : ℕ) → get_or area i 0 < 256) → {limit : ℕ} → limit ≡ limit_of w
    → Fresh window area (record { range = 255; limit = limit; value = w; doublings = 0; bools = 0 })
unfolding start
fresh area w small whole bytes is =
    let v : ℕ = number area * 256 in
    let H : Held area 0 v w = record { exact = omega (arith, whole); zeros = mod-one w; small = small } in
    record {
      over =
          record {
            bytes = bytes;
            holds = held_is area 0 v w H;
            low = lit≤ tt;
            high = lit< tt;
            limit = is;
            few = lit≤ tt;
            count = lit≤ tt;
          };
      state = λ i. record { v = value_is area 0 v w H i; r = 255; c = 0; n = 0 };
      none = refl;
    }

module _ (area : List ℕ) (bytes : (i : ℕ) → get_or area i 0 < 256) (c v w : ℕ) (H : Held area c v w) where
  to_come : rest area (c / 8 + 8) < 2 ^ bits area
  to_come = rest_lt area (c / 8 + 8) bytes

  pub v_small : v < 2 ^ (bits area + 8)
  v_small =
      rw (← top (bits area)) (v_below 56 (2 ^ bits area) (c % 8) (rest area (c / 8 + 8)) v w H to_come (omega arith))

  pub whole_part : v / 2 ^ bits area ≡ w / 2 ^ 56
  whole_part = whole_is 56 (2 ^ bits area) (c % 8) (rest area (c / 8 + 8)) v w H to_come (omega arith)

  module _ (k : ℕ) (le : k ≤ 7) where
    moved : Holds 56 (2 ^ bits area) (c % 8 + k) (rest area (c / 8 + 8)) (v * 2 ^ k % 2 ^ (bits area + 8)) (w * 2 ^ k % 2 ^ 64)
    moved =
        rw (← top (bits area)) (shift 56 (2 ^ bits area) (c % 8) (rest area (c / 8 + 8)) v w H to_come k (omega arith))

    -- no byte comes in
    pub kept : c % 8 + k < 8 → Held area (c + k) (v * 2 ^ k % 2 ^ (bits area + 8)) (w * 2 ^ k % 2 ^ 64)
    kept h =
        let e : (c + k) % 8 ≡ c % 8 + k = omega arith in
        let t : (c + k) / 8 ≡ c / 8 = omega arith in
        rw (e, t) moved

    -- the byte y comes in, as the machine's shift makes it
    pub byte_in : (y : ℕ) → y ≡ get_or area ((c + k) / 8 + 7) 0 → 8 ≤ c % 8 + k
        → Held area (c + k) (v * 2 ^ k % 2 ^ (bits area + 8)) (w * 2 ^ k % 2 ^ 64 + y * 2 ^ (c % 8 + k - 8) % 2 ^ 64)
    byte_in y is h =
        let f = c % 8 + k - 8 in
        let t = c / 8 + 8 in
        let e : (c + k) % 8 ≡ f = omega arith in
        let g : (c + k) / 8 + 7 ≡ t = omega arith in
        let g2 : (c + k) / 8 + 8 ≡ t + 1 = omega arith in
        let back : f + 8 ≡ c % 8 + k = omega arith in
        rw (shl_exact {a = y} 8 f 64 (omega (arith, is, bytes ((c + k) / 8 + 7))) (omega arith), is, e, g, g2)
        (take_byte 56 (2 ^ bits area) f (rest area t) (v * 2 ^ k % 2 ^ (bits area + 8)) (w * 2 ^ k % 2 ^ 64) (rw back moved) (omega arith)
        (get_or area t 0) (rest area (t + 1)) (bytes t) (rest_step area t))

-- before the doublings: the bool b is read, the range is r, and w holds v
pub record Chosen (area : List ℕ) (d : Window) (p : ℕ) (b : Bool) (r v w : ℕ) : Type 0 where
  pub is : read_bool (bits area) p (state_of area d) ≡ out b (normal 7 (bits area) (counted (state_of area d) r v))
  pub holds : Held area d.doublings v w
  pub high : r < 256

module _ {area : List ℕ} {d : Window} (O : Over area d) (p : ℕ) {s : ℕ} (is : s ≡ split d.range p) (lt : s < d.range) where
  abbrev v : ℕ
  v = v_of area d.doublings d.value

  abbrev x : ℕ
  x = rest area (d.doublings / 8 + 8)

  below_one : x < 2 ^ bits area
  below_one = rest_lt area (d.doublings / 8 + 8) O.bytes

  -- g is the split where the window has V's whole part
  pub chosen_one : {g : ℕ} → g ≡ s * 2 ^ 56 → g ≤ d.value → Chosen area d p true (d.range - s) (v - s * 2 ^ bits area) (d.value - g)
  chosen_one {g} e h =
      let k : s * 2 ^ 56 ≤ d.value = rw e at h in
      record {
        is = picks_one (bits area) p 56 (d.doublings % 8) x d.value (state_of area d) O.holds below_one is k;
        holds = rw e (less 56 (2 ^ bits area) (d.doublings % 8) x v d.value O.holds below_one s (omega arith) k);
        high = omega (arith, O.high);
      }

  pub chosen_zero : {g : ℕ} → g ≡ s * 2 ^ 56 → d.value < g → Chosen area d p false s v d.value
  chosen_zero e h = record {
    is = picks_zero (bits area) p 56 (d.doublings % 8) x d.value (state_of area d) O.holds below_one is (omega arith) (rw e at h);
    holds = O.holds;
    high = omega (arith, O.high);
  }

  -- a split of the limit or more is 128 or more, and above the window
  pub limit_is : d.limit ≤ s → (128 ≤ s) × (d.value < s * 2 ^ 56)
  limit_is h = (
    omega (arith, O.limit, limit_low d.value),
    omega (arith, O.limit, limit_above d.value, mul-le-mul_right (2 ^ 56) h),
  )

module _ {area : List ℕ} {d : Window} (G : Good area d 1) {p : ℕ} {b : Bool} {r v w : ℕ} (C : Chosen area d p b r v w) where
  -- the window that fill is handed holds what it makes
  pub holds_v : Held area d.doublings (v_of area d.doublings w) w
  holds_v = held_is area d.doublings v w C.holds

  -- the doublings end in this range and this v, which w' holds
  lands : (c' v' : ℕ) {r' l' w' : ℕ}
      → normal 7 (bits area) (counted (state_of area d) r v) ≡ record { v = v'; r = r'; c = c'; n = d.bools + 1 }
      → Held area c' v' w' → 128 ≤ r' → r' < 256 → c' ≤ d.doublings + 7 → l' ≡ limit_of w'
      → Ran (bool p) area d b (record { range = r'; limit = l'; value = w'; doublings = c'; bools = d.bools + 1 }) 1
  unfolding run bool
  lands c' v' {r'} {l'} {w'} e H lo hi few limit = record {
    is = C.is ∙ ap (out b) (e ∙ (λ i. record { v = sym (value_is area c' v' w' H) i; r = r'; c = c'; n = d.bools + 1 }));
    over =
        record {
          bytes = G.over.bytes;
          holds = held_is area c' v' w' H;
          low = lo;
          high = hi;
          limit = limit;
          few = omega (arith, G.over.few);
          count = omega (arith, G.room);
        };
    most = omega arith;
  }

  -- k doublings, to the range r' and the window w'
  pub doubled : (k : ℕ) {r' l' w' : ℕ} → 128 ≤ r * 2 ^ k → r * 2 ^ k < 256 → k ≤ 7 → r' ≡ r * 2 ^ k → l' ≡ limit_of w'
      → Held area (d.doublings + k) (v_of area d.doublings w * 2 ^ k % 2 ^ (bits area + 8)) w'
      → Ran (bool p) area d b (record { range = r'; limit = l'; value = w'; doublings = d.doublings + k; bools = d.bools + 1 }) 1
  doubled k {r'} {l'} {w'} lo hi le is limit H =
      let v' : ℕ = v * 2 ^ k % 2 ^ (bits area + 8) in
      let small = v_small area G.over.bytes d.doublings v w C.holds in
      lands (d.doublings + k) v'
      (normal_is 7 (bits area) k (counted (state_of area d) r v) le lo hi small
      ∙ (λ i. record { v = v'; r = sym is i; c = d.doublings + k; n = d.bools + 1 }))
      (rw (value_is area d.doublings v w C.holds) at H)
      (rw is lo) (rw is hi) (omega arith) limit

  -- no doubling
  pub as_it_is : 128 ≤ r → {l' : ℕ} → l' ≡ limit_of w
      → Ran (bool p) area d b (record { range = r; limit = l'; value = w; doublings = d.doublings; bools = d.bools + 1 }) 1
  as_it_is lo limit =
      lands d.doublings v (normal_high 7 (bits area) (counted (state_of area d) r v) lo) C.holds lo C.high (omega arith) limit
