-- Literals in parts. The tree of a whole is that of its parts: by induction on the first part's width, and on the second's for what stands
-- above it; a list goes by its first part and the rest. Refusals go by cases on the tests of a read.
use Prim.Native.Nat.{ℕ, zero, suc, ◌+◌, ◌*◌, ◌/◌, ◌%◌, ◌^◌, ◌≤◌, ◌<◌}
use native.Mathlib.Nat.{pow-suc, add-zero, zero-add, suc-add, mul_assoc, mul_comm, add_assoc, pos_of_ne-zero}
use native.Mathlib.Omega.{arith}
use mathlib.Core.Path.{◌≡◌, refl, ap, sym, ◌∙◌}
use mathlib.Core.Logic.{◌↔◌}
use mathlib.Core.Bool.{Bool, true, false, ◌&&◌, and-false, true≢false}
use mathlib.Core.List.{List, [], ◌∷◌}
use lib.Dec.{leb, ltb, eqb, lit≤}
use lib.Pow.{high, low}
use borrow.Author.Tests.{leb-true, leb-false, ltb-true, ltb-false, eqb-true, lt-ltb, le-ltb, eq-eqb}
use Rattle.rfc6386.specs.Decoder.{State, pick}
use Rattle.rfc6386.specs.Frame.{sum}
use Rattle.rfc6386.specs.Reads.{Rd, ret, ◌>>=◌, run, flag, bit, lit_from, lit, make, each}
use Rattle.rfc6386.specs.Split.{beside, together, parted, lit_refusal, or_next, parts_refusal, Halfway, wide, empty, full}
use Rattle.rfc6386.proofs.Trees.{run_bind, assoc, onward, onward_all, lit_all}
use Rattle.rfc6386.proofs.Counts.{a_lit}
use Rattle.rfc6386.proofs.Limits.{Within, within, free}

-- the bools of a + b are those of a and then those of b
from_split : (a b x : ℕ) → lit_from (a + b) x ≡ lit_from a x >>= (λ y. lit_from b y)
unfolding lit_from ◌>>=◌
from_split zero b x = ap (λ (w : ℕ). lit_from w x) (zero-add b)
from_split (suc a) b x =
    ap (λ (w : ℕ). lit_from w x) (suc-add a b) ∙ onward flag (λ c. from_split a b (x * 2 + bit c))
    ∙ sym (assoc flag (λ c. lit_from a (x * 2 + bit c)) (λ y. lit_from b y))

-- what stands above a literal's bits is carried through it, twice as high at each
carried : (w u z : ℕ) → beside w (u * 2) z ≡ beside (suc w) u z
carried w u z =
    let e : u * 2 * 2 ^ w ≡ u * 2 ^ suc w = mul_assoc u 2 (2 ^ w) ∙ ap (λ (n : ℕ). u * n) (mul_comm 2 (2 ^ w) ∙ sym (pow-suc 2 w)) in
    omega (arith, e)

from_above : (w u x : ℕ) → lit_from w (u + x) ≡ make (beside w u) (lit_from w x)
unfolding lit_from make ◌>>=◌
from_above zero u x = ap ret (omega arith)
from_above (suc w) u x =
    onward flag (λ c.
    let e : (u + x) * 2 + bit c ≡ u * 2 + (x * 2 + bit c) = omega arith in
    ap (lit_from w) e ∙ from_above w (u * 2) (x * 2 + bit c) ∙ onward (lit_from w (x * 2 + bit c)) (λ z. ap ret (carried w u z)))
    ∙ sym (assoc flag (λ c. lit_from w (x * 2 + bit c)) (λ z. ret (beside (suc w) u z)))

-- a literal of a + b bools is one of a and then one of b
pub lit_split : (a b : ℕ) → lit (a + b) ≡ lit a >>= (λ y. make (beside b y) (lit b))
unfolding lit
lit_split a b =
    from_split a b 0 ∙ onward (lit_from a 0) (λ y. ap (lit_from b) (sym (add-zero y)) ∙ from_above b y 0)

-- over every area and from every state: the value is made of the two, and the state, with its count of bools, is that after the second
pub run_split : (a b l : ℕ) (s : State)
    → let first = run (lit a) l s in let second = run (lit b) l first.then in
    run (lit (a + b)) l s ≡ record { got = beside b first.got second.got; then = second.then }
unfolding make run
run_split a b l s =
    let first = run (lit a) l s in
    ap (λ (m : Rd ℕ). run m l s) (lit_split a b) ∙ run_bind (lit a) (λ y. make (beside b y) (lit b)) l s
    ∙ run_bind (lit b) (λ z. ret (beside b first.got z)) l first.then

-- two literals and what is made of them, by one literal of all their bools: the first part is what 2 ^ b divides off, the second the rest
pub regroup : {A : Type 0} (a b : ℕ) (k : ℕ → ℕ → Rd A)
    → lit a >>= (λ y. lit b >>= (λ z. k y z)) ≡ lit (a + b) >>= (λ v. k (v / 2 ^ b) (v % 2 ^ b))
unfolding make ◌>>=◌
regroup {A} a b k =
    onward (lit a) (λ y.
    onward_all (λ z. z < 2 ^ b) (lit b) (lit_all b) (λ z h. λ i. k (sym (high y b h) i) (sym (low y b h) i))
    ∙ sym (assoc (lit b) (λ z. ret (beside b y z)) whole))
    ∙ sym (assoc (lit a) (λ y. make (beside b y) (lit b)) whole) ∙ ap (λ (m : Rd ℕ). m >>= whole) (sym (lit_split a b))
  where
    whole : ℕ → Rd A
    whole v = k (v / 2 ^ b) (v % 2 ^ b)

-- a flag is a literal of one bool, and so a part as others are
pub flag_lit : make bit flag ≡ lit 1
unfolding make lit lit_from ◌>>=◌
flag_lit = onward flag go
  where
    go : (b : Bool) → ret (bit b) ≡ ret (0 * 2 + bit b)
    go true = refl
    go false = refl

-- any number of parts: their values make the whole's
pub lits_together : (ws : List ℕ) → lit (sum ws) ≡ make (together ws) (each lit ws)
unfolding sum together each make lit lit_from ◌>>=◌
lits_together [] = refl
lits_together (w ∷ ws) =
    lit_split w (sum ws)
    ∙ onward (lit w) (λ y.
    ap (λ (m : Rd ℕ). make (beside (sum ws) y) m) (lits_together ws)
    ∙ assoc (each lit ws) (λ vs. ret (together ws vs)) (λ z. ret (beside (sum ws) y z))
    ∙ sym (assoc (each lit ws) (λ vs. ret (y ∷ vs)) (λ vs. ret (together (w ∷ ws) vs))))
    ∙ sym (assoc (lit w) (λ y. each lit ws >>= (λ vs. ret (y ∷ vs))) (λ vs. ret (together (w ∷ ws) vs)))

-- and the whole's value tells theirs
pub lits_parted : (ws : List ℕ) → each lit ws ≡ make (parted ws) (lit (sum ws))
unfolding sum parted each make lit lit_from ◌>>=◌
lits_parted [] = refl
lits_parted (w ∷ ws) =
    onward (lit w) (λ y.
    ap (λ (m : Rd (List ℕ)). m >>= (λ vs. ret (y ∷ vs))) (lits_parted ws)
    ∙ assoc (lit (sum ws)) (λ v. ret (parted ws v)) (λ vs. ret (y ∷ vs)))
    ∙ regroup w (sum ws) (λ y z. ret (y ∷ parted ws z))

-- a literal counts its bools
pub lit_bools : (w l : ℕ) (s : State) → (run (lit w) l s).then.n ≡ s.n + w
lit_bools w l s = omega (arith, (a_lit w).low l s, (a_lit w).high l s)

-- the tests of a literal but the first, by whether the area is empty
abbrev tested : Bool → ℕ → ℕ → ℕ
tested z w n = pick (ltb 31 w) 7 (pick (z && ltb 0 w) 4 (pick (ltb 16777216 (n + w)) 8 0))

-- of a narrow whole: the first part's, else the second's
narrow_ways : (z : Bool) (a b n : ℕ) → n ≤ 16777216 → a + b ≤ 31 → tested z (a + b) n ≡ or_next (tested z a n) (tested z b (n + a))
narrow_ways z a b n h g =
    rw (le-ltb 31 (a + b) g, le-ltb 31 a (omega arith), le-ltb 31 b (omega arith)) (go z a b)
  where
    by : (a b : ℕ) (t : Bool) → ltb 16777216 (n + a) ≡ t
        → pick {A = ℕ} (ltb 16777216 (n + (a + b))) 8 0 ≡ or_next (pick t 8 0) (pick (ltb 16777216 (n + a + b)) 8 0)
    by a b true e = rw (lt-ltb 16777216 (n + (a + b)) (omega (arith, ltb-true 16777216 (n + a) e)))
    by a b false e = rw (add_assoc n a b)

    go : (z : Bool) (a b : ℕ)
        → pick {A = ℕ} (z && ltb 0 (a + b)) 4 (pick (ltb 16777216 (n + (a + b))) 8 0)
        ≡ or_next (pick (z && ltb 0 a) 4 (pick (ltb 16777216 (n + a)) 8 0)) (pick (z && ltb 0 b) 4 (pick (ltb 16777216 (n + a + b)) 8 0))
    go false a b = by a b (ltb 16777216 (n + a)) refl
    go true zero b = rw (zero-add b, add-zero n, le-ltb 16777216 n h)
    go true (suc a) b = rw (lt-ltb 0 (suc a + b) (omega arith), lt-ltb 0 (suc a) (omega arith))

-- the two ways are refused alike, but for the width limit: a whole of more than 31 bools is refused by 7 where its area is not too large
pub ways : (size a b n : ℕ) → n ≤ 16777216
    → lit_refusal size (a + b) n
    ≡ pick (ltb size (2 ^ 28) && ltb 31 (a + b)) 7 (or_next (lit_refusal size a n) (lit_refusal size b (n + a)))
ways size a b n h = go (leb (2 ^ 28) size) (ltb 31 (a + b)) refl refl
  where
    go : (l t : Bool) → leb (2 ^ 28) size ≡ l → ltb 31 (a + b) ≡ t
        → lit_refusal size (a + b) n
        ≡ pick (ltb size (2 ^ 28) && ltb 31 (a + b)) 7 (or_next (lit_refusal size a n) (lit_refusal size b (n + a)))
    go true t el et = rw (el, le-ltb size (2 ^ 28) (leb-true _ _ el))
    go false true el et = rw (el, lt-ltb size (2 ^ 28) (leb-false _ _ el), et)
    go false false el et =
        rw (el, lt-ltb size (2 ^ 28) (leb-false _ _ el)) (narrow_ways (eqb size 0) a b n h (ltb-false _ _ et) ∙ rw et)

-- with the rest's refusal told otherwise, x, where the first part is read and the whole is narrow
ways_by : (size w v n x : ℕ) → n ≤ 16777216 → (Within size w w n → w + v ≤ 31 → lit_refusal size v (n + w) ≡ x)
    → lit_refusal size (w + v) n ≡ pick (ltb size (2 ^ 28) && ltb 31 (w + v)) 7 (or_next (lit_refusal size w n) x)
ways_by size w v n x h rest = ways size w v n h ∙ go (ltb size (2 ^ 28) && ltb 31 (w + v)) (lit_refusal size w n) refl refl
  where
    go : (t : Bool) (k : ℕ) → (ltb size (2 ^ 28) && ltb 31 (w + v)) ≡ t → lit_refusal size w n ≡ k
        → pick t 7 (or_next k (lit_refusal size v (n + w))) ≡ pick t 7 (or_next k x)
    go true k et ek = refl
    go false (suc k) et ek = refl
    go false zero et ek =
        let f = within size w w n ek in
        rest f (ltb-false 31 (w + v) (rw (lt-ltb size (2 ^ 28) f.small) at et))

-- the same of any number of parts
pub ways_of : (size w : ℕ) (ws : List ℕ) (n : ℕ) → n ≤ 16777216
    → lit_refusal size (sum (w ∷ ws)) n ≡ pick (ltb size (2 ^ 28) && ltb 31 (sum (w ∷ ws))) 7 (parts_refusal size (w ∷ ws) n)
unfolding sum parts_refusal
ways_of size w [] n h =
    ways_by size w 0 n 0 h (λ f g.
    free size 0 0 (n + w) (record { small = f.small; narrow = lit≤ tt; some = and-false (eqb size 0); few = omega (arith, f.few) }))
ways_of size w (v ∷ vs) n h =
    ways_by size w (v + sum vs) n (parts_refusal size (v ∷ vs) (n + w)) h (λ f g.
    ways_of size v vs (n + w) f.few ∙ rw (le-ltb 31 (v + sum vs) (omega (arith, g)), and-false))

-- exactly where a whole is refused and its first part is not
pub halfway : (size a b n : ℕ) → lit_refusal size a n ≡ 0 → (0 < lit_refusal size (a + b) n) ↔ Halfway size a b n
halfway size a b n first = (there, back)
  where
    f : Within size a a n
    f = within size a a n first

    go : (t e u : Bool) → ltb 31 (a + b) ≡ t → (eqb size 0 && ltb 0 (a + b)) ≡ e → ltb 16777216 (n + (a + b)) ≡ u
        → 0 < lit_refusal size (a + b) n → Halfway size a b n
    go true e u et ee eu h = wide (ltb-true _ _ et)
    go false true u et ee eu h = empties (eqb size 0) refl ee
      where
        empties : (z : Bool) → eqb size 0 ≡ z → (z && ltb 0 (a + b)) ≡ true → Halfway size a b n
        empties true ez e =
            let none : a ≤ 0 = ltb-false 0 a (rw ez at f.some) in
            empty (eqb-true size 0 ez) (omega (arith, none)) (omega (arith, none, ltb-true 0 (a + b) e))
        empties false ez e = absurd (true≢false (sym e))
    go false false true et ee eu h = full (ltb-true _ _ eu)
    go false false false et ee eu h =
        let g : Within size (a + b) (a + b) n =
        record { small = f.small; narrow = ltb-false _ _ et; some = ee; few = ltb-false _ _ eu } in
        absurd (omega (arith, free size (a + b) (a + b) n g, h))

    there : 0 < lit_refusal size (a + b) n → Halfway size a b n
    there = go (ltb 31 (a + b)) (eqb size 0 && ltb 0 (a + b)) (ltb 16777216 (n + (a + b))) refl refl refl

    never : Halfway size a b n → lit_refusal size (a + b) n ≡ 0 → ⊥
    never x e =
        let g = within size (a + b) (a + b) n e in
        at x g
      where
        at : Halfway size a b n → Within size (a + b) (a + b) n → ⊥
        at (wide h) g = omega (arith, h, g.narrow)
        at (empty z y h) g = true≢false (sym (rw (eq-eqb size 0 z) (lt-ltb 0 (a + b) (omega (arith, h)))) ∙ g.some)
        at (full h) g = omega (arith, h, g.few)

    back : Halfway size a b n → 0 < lit_refusal size (a + b) n
    back x = pos_of_ne-zero (never x)
