-- What is read, whatever the bytes: a tree that asks for a bool at a probability and goes on by its answer. `run` is what a decoder
-- makes of it.
use Rattle.std.specs.Prelude.{ℕ, zero, suc, ◌+◌, ◌*◌, Bool, true, false, List, [], ◌∷◌, ℤ, pos, neg_ℤ}
use Rattle.std.proofs.Math.Option.{Option, none, some}
use Rattle.rfc6386.specs.Decoder.{State, Out, read_bool}

infixl 20 ◌>>=◌
pub data Rd (A : Type 0) : Type 0 where
  ret : A → Rd A
  ask : ℕ → (Bool → Rd A) → Rd A

-- one tree, and then the one that its value picks
unfoldable pub ◌>>=◌ : {A B : Type 0} → Rd A → (A → Rd B) → Rd B
ret a >>= f = f a
ask p k >>= f = ask p (λ b. k b >>= f)

-- over an area of l bits
unfoldable pub run : {A : Type 0} → Rd A → ℕ → State → Out A
run (ret a) l s = record { got = a; then = s }
run (ask p k) l s =
    let o = read_bool l p s in
    run (k o.got) l o.then

-- one bool at the probability p
unfoldable pub bool : ℕ → Rd Bool
bool p = ask p (λ b. ret b)

-- a flag is a bool at even chances
unfoldable pub flag : Rd Bool
flag = bool 128

-- m where b is set, a where it isn't
unfoldable pub when : {A : Type 0} → Bool → Rd A → A → Rd A
when true m a = m
when false m a = ret a

abbrev pub bit : Bool → ℕ
bit true = 1
bit false = 0

-- w bools at even chances, the high bit first, after the number x
unfoldable pub lit_from : ℕ → ℕ → Rd ℕ
lit_from zero x = ret x
lit_from (suc w) x = flag >>= (λ b. lit_from w (x * 2 + bit b))

-- a literal of w bools: RFC 6386 section 8, L(w)
unfoldable pub lit : ℕ → Rd ℕ
lit w = lit_from w 0

-- minus zero is 0
abbrev pub signed : Bool → ℕ → ℤ
signed true m = neg_ℤ (pos m)
signed false m = pos m

-- a magnitude of w bools, then a sign
unfoldable pub sint : ℕ → Rd ℤ
sint w = lit w >>= (λ m. flag >>= (λ b. ret (signed b m)))

-- the read m, with f of its value
unfoldable pub make : {A B : Type 0} → (A → B) → Rd A → Rd B
make f m = m >>= (λ x. ret (f x))

-- the read m, n times
unfoldable pub times : {A : Type 0} → ℕ → Rd A → Rd (List A)
times zero m = ret []
times (suc n) m = m >>= (λ x. times n m >>= (λ xs. ret (x ∷ xs)))

-- the read f of each element, in order
unfoldable pub each : {A B : Type 0} → (A → Rd B) → List A → Rd (List B)
each f [] = ret []
each f (x ∷ xs) = f x >>= (λ y. each f xs >>= (λ ys. ret (y ∷ ys)))

-- a value where its bool, at the probability p, is set
unfoldable pub maybe : {A : Type 0} → ℕ → Rd A → Rd (Option A)
maybe p m = bool p >>= (λ b. when b (make some m) none)

-- a value where its flag is set, x where it isn't
unfoldable pub or_else : {A : Type 0} → Rd A → A → Rd A
or_else m x = flag >>= (λ b. when b m x)
