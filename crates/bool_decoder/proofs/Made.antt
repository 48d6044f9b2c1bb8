-- Trees with what is made of their value: reading such a tree is reading the tree itself, whose value is the definition's. Laws of trees go
-- by `assoc`, those of reading them by induction on the tree.
use Prim.Native.Nat.{ℕ}
use mathlib.Core.Path.{◌≡◌, refl, sym, ap, ◌∙◌, fun_ext}
use mathlib.Core.Bool.{Bool, true, false}
use mathlib.Core.Option.{none, some}
use mathlib.Core.List.{List}
use Rattle.rfc6386.specs.Decoder.{State, Out, bits, read_bool}
use Rattle.rfc6386.specs.Reads.{Rd, ret, ask, ◌>>=◌, run, bool, when, make, maybe}
use Rattle.rfc6386.specs.Runs.{or}
use Rattle.rfc6386.proofs.Trees.{assoc, onward}
use Rattle.bool_decoder.specs.Engine.{Engine, out, Ran}

-- a tree followed by what is made of its value, and then more
pub make_then : {A B C : Type 0} (m : Rd A) (h : A → B) (k : B → Rd C) → make h m >>= k ≡ m >>= (λ a. k (h a))
unfolding make ◌>>=◌
make_then m h k = assoc m (λ a. ret (h a)) k

pub make_make : {A B C : Type 0} (m : Rd A) (h : A → B) (g : B → C) → make g (make h m) ≡ make (λ a. g (h a)) m
unfolding make ◌>>=◌
make_make m h g = assoc m (λ a. ret (h a)) (λ b. ret (g b))

-- what is made of two reads, and of a read under a flag
pub make_bind : {A B C : Type 0} (m : Rd A) (f : A → Rd B) (h : B → C) → m >>= (λ a. make h (f a)) ≡ make h (m >>= f)
unfolding make ◌>>=◌
make_bind m f h = sym (assoc m f (λ b. ret (h b)))

pub make_on : {A B : Type 0} (m : Rd A) (x : A) (h : A → B) {b : Bool} → b ≡ true → make h m ≡ make h (when b m x)
unfolding when
make_on m x h e = rw e

pub make_off : {A B : Type 0} (m : Rd A) (x : A) (h : A → B) {b : Bool} → b ≡ false → ret (h x) ≡ make h (when b m x)
unfolding when make ◌>>=◌
make_off m x h e = rw e

-- a read that keeps the old value where none is coded
pub kept_or : {A : Type 0} (p : ℕ) (m : Rd A) (x : A) → bool p >>= (λ b. when b m x) ≡ make (λ u. or u x) (maybe p m)
unfolding maybe make when ◌>>=◌
kept_or p m x = onward (bool p) go ∙ sym (assoc (bool p) _ _)
  where
    back : {A : Type 0} (n : Rd A) → n >>= (λ a. ret a) ≡ n
    back (ret a) = refl
    back (ask q k) = ap (ask q) (fun_ext (λ b. back (k b)))

    go : (b : Bool) → when b m x ≡ when b (make some m) none >>= (λ u. ret (or u x))
    go true = sym (back m) ∙ sym (assoc m (λ y. ret (some y)) (λ u. ret (or u x)))
    go false = refl

run_make : {A B : Type 0} (m : Rd A) (h : A → B) (l : ℕ) (s : State) → run (make h m) l s ≡ out (h (run m l s).got) (run m l s).then
unfolding run make ◌>>=◌
run_make (ret a) h l s = refl
run_make (ask p k) h l s = run_make (k (read_bool l p s).got) h l (read_bool l p s).then

module _ {E : Engine} {A : Type 0} {area : List ℕ} {d d' : E.Dec} where
  -- of two trees that are equal
  pub same : {m n : Rd A} {a : A} {k : ℕ} → m ≡ n → Ran E m area d a d' k → Ran E n area d a d' k
  same e p = rw e at p

  -- the value of a run, by an equal one
  pub worth : {m : Rd A} {a b : A} {k : ℕ} → a ≡ b → Ran E m area d a d' k → Ran E m area d b d' k
  worth e p = rw e at p

module _ {E : Engine} {A B : Type 0} {area : List ℕ} {d d' : E.Dec} where
  pub makes : {m : Rd A} {a : A} {k : ℕ} (h : A → B) → Ran E m area d a d' k → Ran E (make h m) area d (h a) d' k
  makes {m} h p = record {
    is = run_make m h (bits area) (E.state_of area d) ∙ ap (λ (o : Out A). out (h o.got) o.then) p.is;
    over = p.over;
    most = p.most;
  }

-- the definition's value, and what is made of it
pub record Made (E : Engine) {A B : Type 0} (m : Rd A) (h : A → B) (area : List ℕ) (d : E.Dec) (b : B) (d' : E.Dec) (k : ℕ) : Type 0 where
  pub value : A
  pub ran : Ran E m area d value d' k
  pub is : b ≡ h value

pub made : {E : Engine} {A B : Type 0} {m : Rd A} {h : A → B} {area : List ℕ} {d d' : E.Dec} {b : B} {k : ℕ}
    → Ran E (make h m) area d b d' k → Made E m h area d b d' k
made {E} {A} {B} {m} {h} {area} {d} {d'} {b} {k} p =
    let o : Out A = run m (bits area) (E.state_of area d) in
    let e : out (h o.got) o.then ≡ out b (E.state_of area d') = sym (run_make m h (bits area) (E.state_of area d)) ∙ p.is in
    let end : o.then ≡ E.state_of area d' = ap (λ (x : Out B). x.then) e in
    record {
      value = o.got;
      ran = record { is = λ i. record { got = o.got; then = end i }; over = p.over; most = p.most };
      is = sym (ap (λ (x : Out B). x.got) e);
    }
