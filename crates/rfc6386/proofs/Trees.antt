-- Laws of trees, by induction on the tree: what a run of two reads one after the other is, and what holds of every value that a tree
-- can read.
use Prim.Native.Nat.{ℕ, zero, suc, ◌+◌, ◌*◌, ◌^◌, ◌<◌}
use native.Mathlib.Nat.{pow-suc, add-zero, zero-add, add-suc, suc-add}
use native.Mathlib.Omega.{arith}
use mathlib.Core.Path.{◌≡◌, refl, ap, sym, ◌∙◌, fun_ext}
use mathlib.Core.Bool.{Bool, true, false}
use Rattle.rfc6386.specs.Decoder.{State, read_bool}
use Rattle.rfc6386.specs.Reads.{Rd, ret, ask, ◌>>=◌, run, bool, flag, bit, lit_from, lit}

pub run_bind : {A B : Type 0} (m : Rd A) (f : A → Rd B) (l : ℕ) (s : State)
    → run (m >>= f) l s ≡ run (f (run m l s).got) l (run m l s).then
unfolding run ◌>>=◌
run_bind (ret a) f l s = refl
run_bind (ask p k) f l s = run_bind (k (read_bool l p s).got) f l (read_bool l p s).then

pub assoc : {A B C : Type 0} (m : Rd A) (f : A → Rd B) (g : B → Rd C) → (m >>= f) >>= g ≡ m >>= (λ a. f a >>= g)
unfolding ◌>>=◌
assoc (ret a) f g = refl
assoc (ask p k) f g = ap (ask p) (fun_ext (λ b. assoc (k b) f g))

pub onward : {A B : Type 0} (m : Rd A) {f g : A → Rd B} → ((a : A) → f a ≡ g a) → m >>= f ≡ m >>= g
onward {A} {B} m h = ap {A = A → Rd B} (λ k. m >>= k) (fun_ext h)

-- P holds of what m reads, over every area and from every state
abbrev pub Always : {A : Type 0} → (A → Type 0) → Rd A → Type 0
Always P m = (l : ℕ) (s : State) → P (run m l s).got

pub always_ret : {A : Type 0} (P : A → Type 0) (a : A) → P a → Always P (ret a)
unfolding run
always_ret P a h l s = h

pub always_bind : {A B : Type 0} (Q : A → Type 0) (P : B → Type 0) (m : Rd A) (f : A → Rd B)
    → Always Q m → ((a : A) → Q a → Always P (f a)) → Always P (m >>= f)
always_bind Q P m f h g l s = rw (run_bind m f l s) (g (run m l s).got (h l s) l (run m l s).then)

-- where nothing has to be known of the first value
pub always_skip : {A B : Type 0} (P : B → Type 0) (m : Rd A) (f : A → Rd B) → ((a : A) → Always P (f a)) → Always P (m >>= f)
always_skip P m f g = always_bind (λ a. Unit {0}) P m f (λ l s. tt) (λ a u. g a)

-- P holds of every value that m can end with, whatever its bools are
abbrev pub All : {A : Type 0} → (A → Type 0) → Rd A → Type 0
All P (ret a) = P a
All P (ask p k) = (b : Bool) → All P (k b)

pub all_always : {A : Type 0} (P : A → Type 0) (m : Rd A) → All P m → Always P m
unfolding run
all_always P (ret a) h l s = h
all_always P (ask p k) h l s = all_always P (k (read_bool l p s).got) (h (read_bool l p s).got) l (read_bool l p s).then

-- what follows m matters only on such values
pub onward_all : {A B : Type 0} (P : A → Type 0) (m : Rd A) {f g : A → Rd B} → All P m → ((a : A) → P a → f a ≡ g a) → m >>= f ≡ m >>= g
unfolding ◌>>=◌
onward_all P (ret a) h e = e a h
onward_all P (ask p k) h e = ap (ask p) (fun_ext (λ b. onward_all P (k b) (h b) e))

bit_small : (x k : ℕ) (b : Bool) → x < 2 ^ k → x * 2 + bit b < 2 ^ suc k
bit_small x k true h = rw pow-suc (omega arith)
bit_small x k false h = rw pow-suc (omega arith)

-- a literal of w bools after a number of k bits has k + w bits
lit_from_all : (w x k : ℕ) → x < 2 ^ k → All (λ y. y < 2 ^ (k + w)) (lit_from w x)
unfolding lit_from flag bool ◌>>=◌
lit_from_all zero x k h = rw add-zero h
lit_from_all (suc w) x k h =
    let e : suc k + w ≡ k + suc w = suc-add k w ∙ sym (add-suc k w) in
    λ b. rw e at (lit_from_all w (x * 2 + bit b) (suc k) (bit_small x k b h))

pub lit_all : (w : ℕ) → All (λ y. y < 2 ^ w) (lit w)
unfolding lit
lit_all w = rw zero-add at (lit_from_all w 0 0 (omega arith))

pub lit_small : (w : ℕ) → Always (λ y. y < 2 ^ w) (lit w)
lit_small w = all_always (λ y. y < 2 ^ w) (lit w) (lit_all w)
