-- When the bare decoder refuses nothing: by cases on its four tests.
use Prim.Native.Nat.{ℕ, ◌+◌, ◌^◌, ◌≤◌, ◌<◌}
use native.Mathlib.Omega.{arith}
use mathlib.Core.Path.{◌≡◌, refl}
use mathlib.Core.Bool.{Bool, true, false, ◌&&◌}
use lib.Dec.{leb, ltb, eqb}
use borrow.Author.Tests.{leb-false, ltb-false, lt-leb, le-ltb}
use Rattle.rfc6386.specs.Decoder.{pick, refusal_of}

-- what it takes that nothing is refused
pub record Within (size width wanted n : ℕ) : Type 0 where
  pub small : size < 2 ^ 28
  pub narrow : width ≤ 31
  pub some : (eqb size 0 && ltb 0 wanted) ≡ false
  pub few : n + wanted ≤ 16777216

pub within : (size w k n : ℕ) → refusal_of size w k n ≡ 0 → Within size w k n
within size w k n = go (leb (2 ^ 28) size) (ltb 31 w) (eqb size 0 && ltb 0 k) (ltb 16777216 (n + k)) refl refl refl refl
  where
    go : (a b c e : Bool) → leb (2 ^ 28) size ≡ a → ltb 31 w ≡ b → (eqb size 0 && ltb 0 k) ≡ c → ltb 16777216 (n + k) ≡ e
        → pick {A = ℕ} a 6 (pick b 7 (pick c 4 (pick e 8 0))) ≡ 0 → Within size w k n
    go true b c e ea eb ec en z = absurd (omega arith)
    go false true c e ea eb ec en z = absurd (omega arith)
    go false false true e ea eb ec en z = absurd (omega arith)
    go false false false true ea eb ec en z = absurd (omega arith)
    go false false false false ea eb ec en z =
        record { small = leb-false _ _ ea; narrow = ltb-false _ _ eb; some = ec; few = ltb-false _ _ en }

pub free : (size w k n : ℕ) → Within size w k n → refusal_of size w k n ≡ 0
free size w k n h =
    rw (lt-leb (2 ^ 28) size h.small, le-ltb 31 w h.narrow, h.some, le-ltb 16777216 (n + k) h.few)
