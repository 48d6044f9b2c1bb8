-- What the bare decoder answers, of any engine: a read that is allowed is the run of its tree, by one step of `make`; one that is refused
-- leaves the state. No answer leaves a choice.
use Prim.Native.Nat.{ℕ, zero, suc, ◌<◌}
use native.Mathlib.Omega.{arith}
use mathlib.Core.Path.{◌≡◌, refl, ap, sym, ◌∙◌}
use mathlib.Core.List.{List}
use Rattle.rfc6386.specs.Decoder.{State, Out, bits}
use Rattle.rfc6386.specs.Reads.{Rd, ret, run, make}
use Rattle.rfc6386.proofs.Trees.{run_bind}
use Rattle.bool_decoder.specs.Engine.{Engine, out, past_of, Allows, Refuses}
use Rattle.bool_slow.specs.Asks.{Ask, Value, Refused, or_refused, answered, Gives}

made : {A : Type 0} (f : A → Value) (m : Rd A) (l : ℕ) (s : State) {a : A} {t : State}
    → run m l s ≡ out a t → run (make f m) l s ≡ out (f a) t
unfolding make run
made {A} f m l s e = run_bind m (λ x. ret (f x)) l s ∙ ap (λ (o : Out A). out (f o.got) o.then) e

pub allowed : {E : Engine} {A : Type 0} (f : A → Value) (m : Rd A) {area : List ℕ} {d : E.Dec} {width wanted : ℕ} {a : A} {q : ℕ}
    {d' : E.Dec}
    → Allows E m area d width wanted a q d' → Gives E area (record { width = width; wanted = wanted; tree = make f m }) d (f a) q d'
unfolding answered
allowed {E} f m {area} {d} g = record {
  is =
      ap (λ (k : ℕ). or_refused k (E.state_of area d) (run (make f m) (bits area) (E.state_of area d))) g.free
      ∙ made f m (bits area) (E.state_of area d) g.read.ran.is;
  past = g.read.past;
  over = g.read.ran.over;
}

some_refused : (k n : ℕ) (s : State) (o : Out Value) → n ≡ k → 0 < n → or_refused k s o ≡ out (Refused n) s
some_refused zero n s o e h = absurd (omega (arith, e, h))
some_refused (suc k) n s o e h = ap (λ (j : ℕ). out (Refused j) s) (sym e)

pub refused : {E : Engine} {area : List ℕ} {d : E.Dec} {width wanted n : ℕ} (m : Rd Value) → E.Over area d
    → Refuses E area d width wanted n
    → Gives E area (record { width = width; wanted = wanted; tree = m }) d (Refused n) (past_of E area d) d
unfolding answered
refused {E} {area} {d} {n} m o g = record {
  is = some_refused _ n (E.state_of area d) (run m (bits area) (E.state_of area d)) g.is g.some;
  past = refl;
  over = o;
}

-- any two answers of an engine to one read are equal, where its decoders are functions of the states that they stand for
pub one_given : {E : Engine} {S : Type 0} (all : Value → ℕ → E.Dec → S) {area : List ℕ}
    → ((d e : E.Dec) → E.Over area d → E.Over area e → E.state_of area d ≡ E.state_of area e → d ≡ e)
    → {a : Ask} {d : E.Dec} {v w : Value} {q t : ℕ} {e f : E.Dec} → Gives E area a d v q e → Gives E area a d w t f
    → all v q e ≡ all w t f
one_given {E} all {area} same {e = e} {f = f} p s =
    let o = sym p.is ∙ s.is in
    let left = same e f p.over s.over (ap (λ (x : Out Value). x.then) o) in
    let beyond = p.past ∙ ap (past_of E area) left ∙ sym s.past in
    λ i. all (o i).got (beyond i) (left i)
