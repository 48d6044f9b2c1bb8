-- The kinds of a script one by one: all are known, or one is not. By induction on the script, two bytes at a time.
use Prim.Native.Nat.{ℕ, zero, suc, ◌+◌, ◌*◌, ◌≤◌, ◌<◌}
use native.Mathlib.Omega.{arith}
use mathlib.Core.Path.{◌≡◌, refl, sym, ap}
use mathlib.Core.Bool.{Bool, true, false, cond}
use mathlib.Core.List.{List, [], ◌∷◌}
use lib.Dec.{ltb}
use lib.ListN.{length, get_or}
use denote.Ref.{Bor}
use Rattle.std.specs.Prelude.{Option, Some, None, IfSome, IsSomeAnd, MatchBool}
use Rattle.std.specs.Option.{option_map}
use borrow.Author.Tests.{lt-ltb, le-ltb}
use Rattle.bool_script.specs.Script.{known}

two : (k : ℕ) → suc k * 2 ≡ suc (suc (k * 2))
two k = omega arith

after_bad : (b c : Bool) → c ≡ false → cond b false c ≡ false
after_bad true c e = refl
after_bad false c e = e

pub all_known : (xs : List ℕ) → ((k : ℕ) → k * 2 < length xs → get_or xs (k * 2) 0 ≤ 2) → known xs ≡ true
unfolding known
all_known [] h = refl
all_known (x ∷ []) h = rw (le-ltb 2 x (h 0 (omega arith))) refl
all_known (x ∷ (n ∷ xs)) h =
    rw (le-ltb 2 x (h 0 (omega arith))) (all_known xs (λ k l. rw (two k) at (h (suc k) (omega (arith, l)))))

pub one_bad : (xs : List ℕ) (k : ℕ) → k * 2 < length xs → 2 < get_or xs (k * 2) 0 → known xs ≡ false
unfolding known
one_bad [] k l h = absurd (omega (arith, l))
one_bad (x ∷ []) zero l h = rw (lt-ltb 2 x h) refl
one_bad (x ∷ []) (suc k) l h = absurd (omega (arith, l))
one_bad (x ∷ (n ∷ xs)) zero l h = rw (lt-ltb 2 x h) refl
one_bad (x ∷ (n ∷ xs)) (suc k) l h = after_bad (ltb 2 x) (known xs) (one_bad xs k (omega (arith, l)) (rw (two k) at h))

-- what an item says of the byte that it is
got : Option ℕ → ℕ
got None = 0
got (Some n) = n

small : {T : Bor ℕ → Type 0} (o : Option (Bor ℕ)) (n : ℕ) → option_map (λ (y : Bor ℕ). y.now) o ≡ Some n → IfSome o T
    → ((y : Bor ℕ) → T y → y.now ≤ 2) → n ≤ 2
unfolding got
small None n e p t = let z : 0 ≡ n = ap got e in omega arith
small (Some y) n e p t = let z : y.now ≡ n = ap got e in omega (arith, t y p)

large : {F : Bor ℕ → Type 0} (o : Option (Bor ℕ)) (n : ℕ) → option_map (λ (y : Bor ℕ). y.now) o ≡ Some n → IsSomeAnd o F
    → ((y : Bor ℕ) → F y → 2 < y.now) → 2 < n
unfolding got
large None n e p f = absurd p
large (Some y) n e p f = let z : y.now ≡ n = ap got e in omega (arith, f y p)

-- a test of each kind in turn, which stops at one that fails, after `len` of them: `all` bytes are looked at
pub judged : {K : Type 0} {T F : Bor ℕ → Type 0} (xs : List ℕ) (r whole : Bool) (at : ℕ → Option (Bor ℕ)) (len all : ℕ) → K
    → MatchBool r ((whole ≡ true) × (K → (k : ℕ) → IfSome (at k) T)) (K → (k : ℕ) × (k < len) × IsSomeAnd (at k) F)
    → all ≤ length xs → (whole ≡ true → all ≡ length xs) → len * 2 < all + 2
    → ((k : ℕ) → k * 2 < all → option_map (λ (y : Bor ℕ). y.now) (at k) ≡ Some (get_or xs (k * 2) 0))
    → ((y : Bor ℕ) → T y → y.now ≤ 2) → ((y : Bor ℕ) → F y → 2 < y.now) → r ≡ known xs
judged xs true whole at len all keeps m most ends few is t f =
    sym (all_known xs (λ k l. small (at k) _ (is k (omega (arith, l, ends m.0))) (m.1 keeps k) t))
judged xs false whole at len all keeps m most ends few is t f =
    let bad = m keeps in
    let inside : bad.0 * 2 < all = omega (arith, bad.1, few) in
    sym (one_bad xs bad.0 (omega (arith, inside, most)) (large (at bad.0) _ (is bad.0 inside) bad.2 f))
