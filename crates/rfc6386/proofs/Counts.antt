-- How many bools a header has, at least and at most, each at a probability below 256: a bound for each way to put trees together, then
-- one for each sub-header.
use Prim.Native.Nat.{ℕ, zero, suc, ◌+◌, ◌*◌, ◌≤◌, ◌<◌}
use native.Mathlib.Nat.{mul-zero, mul-suc}
use native.Mathlib.Omega.{arith}
use mathlib.Core.Path.{◌≡◌, refl}
use mathlib.Core.Bool.{Bool, true, false, not}
use mathlib.Core.List.{List, [], ◌∷◌}
use lib.Dec.{ltb, lit<}
use lib.IntN.{ℤ, pos}
use lib.ListN.{length}
use borrow.Author.Tests.{ltb-true}
use Rattle.vp8_probs.specs.Tables.{coeff_update, mv_update}
use Rattle.vp8_records.specs.declared.Mode.{Mode}
use Rattle.rfc6386.specs.Decoder.{State, start, bits, read_bool}
use Rattle.rfc6386.specs.Reads.{Rd, ret, ask, ◌>>=◌, run, bool, flag, when, lit_from, lit, sint, make, times, each, maybe, or_else}
use Rattle.rfc6386.specs.Coded.{anew, features, no_features, mapped, segments, deltas, quant, refresh, coefficients}
use Rattle.rfc6386.specs.Coded.{motion, modes, inter, no_inter, header}
use Rattle.rfc6386.proofs.Trees.{run_bind}
use Rattle.rfc6386.proofs.Range.{Asks, asks_bind, read_few}

-- m reads lo to hi bools, over every area and from every state, and its probabilities are bytes
pub record Counted {A : Type 0} (m : Rd A) (lo hi : ℕ) : Type 0 where
  pub low : (l : ℕ) (s : State) → s.n + lo ≤ (run m l s).then.n
  pub high : (l : ℕ) (s : State) → (run m l s).then.n ≤ s.n + hi
  pub asks : Asks m

none : {A : Type 0} (a : A) → Counted (ret a) 0 0
unfolding run
none a = record { low = λ l s. omega arith; high = λ l s. omega arith; asks = tt }

one : (p : ℕ) → p < 256 → Counted (bool p) 1 1
unfolding run bool
one p h = record {
  low = λ l s. omega (arith, (read_few l p s).1);
  high = λ l s. omega (arith, (read_few l p s).1);
  asks = (h, λ b. tt);
}

both : {A B : Type 0} {m : Rd A} (f : A → Rd B) {a b c e : ℕ} → Counted m a b → ((x : A) → Counted (f x) c e)
    → Counted (m >>= f) (a + c) (b + e)
both {m} f p q = record {
  low = λ l s. rw (run_bind m f l s) (omega (arith, p.low l s, (q (run m l s).got).low l (run m l s).then));
  high = λ l s. rw (run_bind m f l s) (omega (arith, p.high l s, (q (run m l s).got).high l (run m l s).then));
  asks = asks_bind m f p.asks (λ x. (q x).asks);
}

wider : {A : Type 0} {m : Rd A} {a b c e : ℕ} → c ≤ a → b ≤ e → Counted m a b → Counted m c e
wider h g p = record { low = λ l s. omega (arith, p.low l s); high = λ l s. omega (arith, p.high l s); asks = p.asks }

-- under a flag
under : {A : Type 0} {m : Rd A} (b : Bool) (x : A) {lo hi : ℕ} → Counted m lo hi → Counted (when b m x) 0 hi
unfolding when
under true x p = wider (omega arith) (omega arith) p
under false x p = wider (omega arith) (omega arith) (none x)

a_flag : Counted flag 1 1
unfolding flag
a_flag = one 128 (lit< tt)

-- the same with what is made of the value
made : {A B : Type 0} {m : Rd A} (f : A → B) {lo hi : ℕ} → Counted m lo hi → Counted (make f m) lo hi
unfolding make
made f p = wider (omega arith) (omega arith) (both _ p (λ x. none (f x)))

a_lit_from : (w x : ℕ) → Counted (lit_from w x) w w
unfolding lit_from
a_lit_from zero x = none x
a_lit_from (suc w) x = wider (omega arith) (omega arith) (both _ a_flag (λ b. a_lit_from w _))

pub a_lit : (w : ℕ) → Counted (lit w) w w
unfolding lit
a_lit w = a_lit_from w 0

a_sint : (w : ℕ) → Counted (sint w) (w + 1) (w + 1)
unfolding sint
a_sint w = both _ (a_lit w) (λ m. both _ a_flag (λ b. none _))

or_else_lem : {A : Type 0} {m : Rd A} (x : A) {lo hi : ℕ} → Counted m lo hi → Counted (or_else m x) 1 (1 + hi)
unfolding or_else
or_else_lem x p = both _ a_flag (λ b. under b x p)

a_maybe : {A : Type 0} {m : Rd A} (p : ℕ) → p < 256 → {lo hi : ℕ} → Counted m lo hi → Counted (maybe p m) 1 (1 + hi)
unfolding maybe
a_maybe p h q = both _ (one p h) (λ b. under b _ (made _ q))

many : {A : Type 0} {m : Rd A} (n : ℕ) {lo hi : ℕ} → Counted m lo hi → Counted (times n m) (lo * n) (hi * n)
unfolding times
many zero {lo} {hi} p = rw (mul-zero lo, mul-zero hi) (none [])
many (suc n) {lo} {hi} p =
    rw (mul-suc lo n, mul-suc hi n) (wider (omega arith) (omega arith) (both _ p (λ x. both _ (many n p) (λ xs. none (x ∷ xs)))))

-- every number of a run is a byte: a test that computes
abbrev Passed : Bool → Type 0 → Type 0
Passed true P = P
Passed false P = ⊥

abbrev Bytes : List ℕ → Type 0
Bytes [] = Unit {0}
Bytes (x ∷ xs) = Passed (ltb x 256) (Bytes xs)

first_byte : (x : ℕ) (xs : List ℕ) → Bytes (x ∷ xs) → (x < 256) × Bytes xs
first_byte x xs = go (ltb x 256) refl
  where
    go : (b : Bool) → ltb x 256 ≡ b → Passed b (Bytes xs) → (x < 256) × Bytes xs
    go true e h = (ltb-true x 256 e, h)
    go false e h = absurd h

-- a read for each of them
all : {B : Type 0} {f : ℕ → Rd B} {lo hi : ℕ} → ((x : ℕ) → x < 256 → Counted (f x) lo hi) → (xs : List ℕ) → Bytes xs
    → Counted (each f xs) (lo * length xs) (hi * length xs)
unfolding each
all {lo = lo} {hi} p [] h = rw (mul-zero lo, mul-zero hi) (none [])
all {lo = lo} {hi} p (x ∷ xs) h =
    let b = first_byte x xs h in
    rw (mul-suc lo (length xs), mul-suc hi (length xs))
    (wider (omega arith) (omega arith) (both _ (p x b.0) (λ y. both _ (all p xs b.1) (λ ys. none (y ∷ ys)))))

values : {A : Type 0} {m : Rd A} (n : ℕ) (x : A) {lo hi : ℕ} → Counted m lo hi → Counted (anew n m x) (1 * n) ((1 + hi) * n)
unfolding anew
values n x p = many n (made _ (or_else_lem x p))

of_features : Counted features 9 69
unfolding features
of_features = both _ a_flag (λ mode. both _ (values 4 _ (a_sint 7)) (λ q. both _ (values 4 _ (a_sint 6)) (λ l. none _)))

of_segments : (md : Mode) → Counted (segments md) 1 99
unfolding segments
of_segments md =
    both _ a_flag (λ e. both _ (under e false a_flag) (λ m. both _ (under e false a_flag) (λ d.
    both _ (under d no_features of_features) (λ f. both _ (under (mapped md m d) [] (values 3 255 (a_lit 8))) (λ p. none _)))))

of_deltas : Counted deltas 1 66
unfolding deltas
of_deltas =
    both _ a_flag (λ e. both _ (under e false a_flag) (λ u.
    both _ (under u [] (many 4 (a_maybe 128 (lit< tt) (a_sint 6)))) (λ f.
    both _ (under u [] (many 4 (a_maybe 128 (lit< tt) (a_sint 6)))) (λ m. none _))))

a_delta : (w : ℕ) (x : ℤ) → Counted (or_else (sint w) x) 1 (1 + (w + 1))
a_delta w x = or_else_lem x (a_sint w)

of_quant : Counted quant 12 37
unfolding quant
of_quant =
    both _ (a_lit 7) (λ q. both _ (a_delta 4 (pos 0)) (λ a. both _ (a_delta 4 (pos 0)) (λ b. both _ (a_delta 4 (pos 0)) (λ c.
    both _ (a_delta 4 (pos 0)) (λ d. both _ (a_delta 4 (pos 0)) (λ e. none _))))))

of_refresh_key : Counted (refresh true) 1 1
unfolding refresh
of_refresh_key = both _ a_flag (λ e. none _)

of_refresh_inter : Counted (refresh false) 6 10
unfolding refresh
of_refresh_inter =
    both _ a_flag (λ g. both _ a_flag (λ a. both _ (under (not g) 0 (a_lit 2)) (λ tg. both _ (under (not a) 0 (a_lit 2)) (λ ta.
    both _ a_flag (λ bg. both _ a_flag (λ ba. both _ a_flag (λ e. both _ a_flag (λ l. none _))))))))

of_coefficients : Counted coefficients 1056 9504
unfolding coefficients coeff_update
of_coefficients = all (λ p h. a_maybe p h (a_lit 8)) coeff_update tt

of_motion : Counted motion 38 304
unfolding motion mv_update
of_motion = all (λ p h. a_maybe p h (made _ (a_lit 7))) mv_update tt

of_modes : (n : ℕ) → Counted (modes n) 1 (1 + 8 * n)
unfolding modes
of_modes n = both _ a_flag (λ b. under b [] (many n (made _ (a_lit 8))))

of_inter : Counted inter 64 386
unfolding inter
of_inter =
    both _ (a_lit 8) (λ i. both _ (a_lit 8) (λ l. both _ (a_lit 8) (λ g. both _ (of_modes 4) (λ y. both _ (of_modes 3) (λ c.
    both _ of_motion (λ m. none _))))))

-- both kinds of frame, with bounds on what is their own: the first two flags, the refresh flags, the last fields
of_header : (md : Mode) (key : Bool) {a b c d e g : ℕ} → Counted (when key flag false) a b → Counted (refresh key) c d
    → Counted (when (not key) inter no_inter) e g
    → Counted (header md key) (a + (a + (1 + (1 + (6 + (3 + (1 + (2 + (12 + (c + (1056 + (1 + (0 + (e + 0))))))))))))))
    (b + (b + (99 + (1 + (6 + (3 + (66 + (2 + (37 + (d + (9504 + (1 + (8 + (g + 0))))))))))))))
unfolding header
of_header md key f r it =
    both _ f (λ cs. both _ f (λ ct.
    both _ (of_segments md) (λ sg. both _ a_flag (λ ft. both _ (a_lit 6) (λ ll. both _ (a_lit 3) (λ sh. both _ of_deltas (λ ds.
    both _ (a_lit 2) (λ lp. both _ of_quant (λ q. both _ r (λ rf. both _ of_coefficients (λ co. both _ a_flag (λ sk.
    both _ (under sk 0 (a_lit 8)) (λ sp. both _ it (λ x. none _))))))))))))))

pub key_header_lem : (md : Mode) → Counted (header md true) 1086 9730
unfolding when
key_header_lem md = of_header md true a_flag of_refresh_key (none no_inter)

pub inter_header_lem : (md : Mode) → Counted (header md false) 1153 10123
unfolding when
inter_header_lem md = of_header md false (none false) of_refresh_inter of_inter

pub asks_header : (md : Mode) (key : Bool) → Asks (header md key)
asks_header md true = (key_header_lem md).asks
asks_header md false = (inter_header_lem md).asks

-- at most seven doublings a bool
pub few_doublings : {A : Type 0} (m : Rd A) (l : ℕ) (s : State) → (run m l s).then.c + 7 * s.n ≤ s.c + 7 * (run m l s).then.n
unfolding run
few_doublings (ret a) l s = omega arith
few_doublings (ask p k) l s =
    let o = read_bool l p s in
    omega (arith, few_doublings (k o.got) l o.then, read_few l p s)

-- no header makes more than 70,861 doublings
pub header_doublings : (md : Mode) (key : Bool) (area : List ℕ) → (run (header md key) (bits area) (start area)).then.c ≤ 70861
unfolding start
header_doublings md key area = most key (few_doublings (header md key) (bits area) (start area))
  where
    o : Bool → State
    o key = (run (header md key) (bits area) (start area)).then

    most : (key : Bool) → (o key).c + 7 * 0 ≤ 0 + 7 * (o key).n → (o key).c ≤ 70861
    most true h = omega (arith, h, (key_header_lem md).high (bits area) (start area))
    most false h = omega (arith, h, (inter_header_lem md).high (bits area) (start area))
