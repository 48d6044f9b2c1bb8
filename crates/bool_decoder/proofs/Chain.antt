-- How reads are put together, of any engine: a law for a step, one for the end, one for a wider bound, one for the room after a read, two
-- for a flag. Each is one step of `run`. The last puts the bits past the end beside what was read.
use Prim.Native.Nat.{ℕ, ◌+◌, ◌≤◌}
use native.Mathlib.Omega.{arith}
use mathlib.Core.Path.{◌≡◌, refl, ap, ◌∙◌}
use mathlib.Core.Bool.{Bool, true, false}
use mathlib.Core.List.{List}
use Rattle.rfc6386.specs.Decoder.{Out, bits}
use Rattle.rfc6386.specs.Reads.{Rd, ret, ◌>>=◌, run, when}
use Rattle.rfc6386.proofs.Trees.{run_bind}
use Rattle.bool_decoder.specs.Engine.{Engine, Good, Ran, past_of, Passed}

module _ {E : Engine} {A B : Type 0} {area : List ℕ} where
  -- first m, then what f makes of its value
  pub then : {m : Rd A} (f : A → Rd B) {d d₁ d₂ : E.Dec} {a : A} {b : B} {j k : ℕ} → Ran E m area d a d₁ j → Ran E (f a) area d₁ b d₂ k
      → Ran E (m >>= f) area d b d₂ (j + k)
  then {m} f {d} p q = record {
    is =
        run_bind m f (bits area) (E.state_of area d) ∙ ap (λ (o : Out A). run (f o.got) (bits area) o.then) p.is
        ∙ q.is;
    over = q.over;
    most = omega (arith, p.most, q.most);
  }

module _ {E : Engine} {A : Type 0} {area : List ℕ} where
  -- nothing is read
  pub done : {d : E.Dec} {a : A} → E.Over area d → Ran E (ret a) area d a d 0
  unfolding run
  done o = record { is = refl; over = o; most = omega arith }

  pub upto : {m : Rd A} {d d₁ : E.Dec} {a : A} {j k : ℕ} → j ≤ k → Ran E m area d a d₁ j → Ran E m area d a d₁ k
  upto h p = record { is = p.is; over = p.over; most = omega (arith, p.most) }

  -- after m there is room for what is left
  pub after : {m : Rd A} {d d₁ : E.Dec} {a : A} {j : ℕ} (k : ℕ) → Ran E m area d a d₁ j → Good E area d (j + k) → Good E area d₁ k
  after k p g = record { over = p.over; room = omega (arith, p.most, g.room) }

  -- a read under a flag that is set, and one under a flag that isn't
  pub on : {m : Rd A} {b : Bool} (x : A) {d d₁ : E.Dec} {a : A} {k : ℕ} → b ≡ true → Ran E m area d a d₁ k
      → Ran E (when b m x) area d a d₁ k
  unfolding when
  on x e p = rw e p

  pub off : (m : Rd A) {b : Bool} {x : A} {d : E.Dec} → b ≡ false → E.Over area d → Ran E (when b m x) area d x d 0
  unfolding when
  off m e o = rw e (done o)

pub fewer : {E : Engine} {area : List ℕ} {d : E.Dec} {j k : ℕ} → j ≤ k → Good E area d k → Good E area d j
fewer h g = record { over = g.over; room = omega (arith, g.room) }

-- an answer that carries the bits past the end too
pub passed : {E : Engine} {A : Type 0} {m : Rd A} {area : List ℕ} {d : E.Dec} {a : A} {q : ℕ} {d' : E.Dec} {k : ℕ}
    → q ≡ past_of E area d' → Ran E m area d a d' k → Passed E m area d a q d' k
passed e r = record { ran = r; past = e }
