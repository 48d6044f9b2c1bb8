-- A literal's loop, of any engine: reading the bools that are left, from here, gives what reading all of them gives.
use mathlib.Core.Path.{◌≡◌, refl, sym, ap, ◌∙◌}
use mathlib.Core.Bool.{Bool, true, false}
use mathlib.Core.List.{List}
use Prim.Native.Nat.{ℕ, zero, suc, ◌+◌, ◌-◌, ◌*◌, ◌^◌, ◌≤◌, ◌<◌}
use native.Mathlib.Nat.{sub-zero, two-pow-succ}
use native.Mathlib.Numerals.{add-one}
use native.Mathlib.Omega.{arith}
use lib.Dec.{lit<, lit≤}
use lib.Signed.{mag}
use mir.Val.{bool_byte}
use Rattle.rfc6386.specs.Decoder.{bits, Out}
use Rattle.rfc6386.specs.Reads.{run, flag, bit, lit_from, lit, signed}
use Rattle.bool_decoder.specs.Engine.{Engine, bools_of, Good, Ran, Lit}
use Rattle.rfc6386.proofs.Trees.{run_bind}

-- a bool as a number
pub byte_bit : (b : Bool) → bool_byte b ≡ bit b
byte_bit true = refl
byte_bit false = refl

pub bit_le : (b : Bool) → bit b ≤ 1
bit_le true = lit≤ tt
bit_le false = lit≤ tt

pub mag_signed : (b : Bool) (m n : ℕ) → m < n → mag (signed b m) < n
mag_signed false m n h = h
mag_signed true zero n h = h
mag_signed true (suc m) n h = omega arith

-- i of the w bools are read, and make v
pub record Reading (E : Engine) (area : List ℕ) (w : ℕ) (d₀ : E.Dec) (v : ℕ) (d : E.Dec) (i : ℕ) : Type 0 where
  pub count : i ≤ w
  pub left : run (lit w) (bits area) (E.state_of area d₀) ≡ run (lit_from (w - i) v) (bits area) (E.state_of area d)
  pub over : E.Over area d
  pub most : bools_of E area d ≤ bools_of E area d₀ + i
  pub small : v < 2 ^ i

pub begin : {E : Engine} (area : List ℕ) (w : ℕ) (d : E.Dec) → E.Over area d → Reading E area w d 0 d 0
unfolding lit
begin area w d o = record { count = omega arith; left = rw (sub-zero w); over = o; most = omega arith; small = lit< tt }

module _ {E : Engine} {area : List ℕ} {w : ℕ} {d₀ : E.Dec} {v : ℕ} {d : E.Dec} {i : ℕ} (R : Reading E area w d₀ v d i) where
  pub room : i < w → Good E area d₀ w → Good E area d 1
  room h g = record { over = R.over; room = omega (arith, R.most, g.room) }

  pub turn : i < w → {b : Bool} {d' : E.Dec} → Ran E flag area d b d' 1 → (y : ℕ) → y ≡ bit b → Reading E area w d₀ (v * 2 + y) d' (i + 1)
  unfolding lit_from
  turn h {b} {d'} q y is =
      let k : ℕ = w - (i + 1) in
      let one : w - i ≡ suc k = omega arith in
      let two : 2 ^ (i + 1) ≡ 2 ^ i + 2 ^ i = ap (λ (x : ℕ). 2 ^ x) (add-one i) ∙ two-pow-succ i in
      record {
        count = omega arith;
        left =
            R.left ∙ ap (λ (x : ℕ). run (lit_from x v) (bits area) (E.state_of area d)) one
            ∙ run_bind flag (λ b. lit_from k (v * 2 + bit b)) (bits area) (E.state_of area d)
            ∙ ap (λ (o : Out Bool). run (lit_from k (v * 2 + bit o.got)) (bits area) o.then) q.is
            ∙ ap (λ (x : ℕ). run (lit_from k (v * 2 + x)) (bits area) (E.state_of area d')) (sym is);
        over = q.over;
        most = omega (arith, R.most, q.most);
        small = omega (arith, R.small, is, bit_le b, two);
      }

  pub end : w ≤ i → Lit E area w d₀ v d
  unfolding lit_from run
  end h =
      let all : i ≡ w = omega (arith, R.count) in
      let none : w - i ≡ 0 = omega arith in
      record {
        ran = record { is = rw none at R.left; over = R.over; most = omega (arith, R.most, all) };
        small = rw (← all) R.small;
      }
