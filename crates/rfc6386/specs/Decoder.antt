-- The boolean decoder as arithmetic (RFC 6386 section 7.2). The area is a list of bytes, followed by
-- endless zero bits; V is that stream read as a binary number with 8 bits before the point.
use Rattle.std.specs.Prelude.{ℕ, zero, suc, ◌+◌, ◌-◌, ◌*◌, ◌/◌, ◌%◌, ◌^◌, min, Bool, true, false, ◌&&◌, List, [], ◌∷◌, leb, ltb, eqb, length}

-- the bytes as one number, high byte first
unfoldable pub number : List ℕ → ℕ
number [] = 0
number (b ∷ bs) = b * 256 ^ length bs + number bs

-- the area's length in bits
abbrev pub bits : List ℕ → ℕ
bits area = 8 * length area

-- v is V · 2 ^ bits, a whole number; r is R; c counts the doublings, n the bools read
pub record State : Type 0 where
  pub v : ℕ
  pub r : ℕ
  pub c : ℕ
  pub n : ℕ

unfoldable pub start : List ℕ → State
start area = record { v = number area * 256; r = 255; c = 0; n = 0 }

-- S, for the range r and the probability p
abbrev pub split : ℕ → ℕ → ℕ
split r p = 1 + (r - 1) * p / 256

-- a doubling drops from V whatever reaches 256
unfoldable pub double : ℕ → State → State
double l s = record { v = s.v * 2 % 2 ^ (l + 8); r = s.r * 2; c = s.c + 1; n = s.n }

-- doubled until R is at least 128, at most k times
unfoldable pub normal : ℕ → ℕ → State → State
normal zero l s = s
normal (suc k) l s = elim (leb 128 s.r) [ true ↦ s | false ↦ normal k l (double l s) ]

-- a bool of 1 takes S off V and R; a bool of 0 makes S the range
unfoldable pub chosen : ℕ → Bool → ℕ → State → State
chosen l true sp s = record { v = s.v - sp * 2 ^ l; r = s.r - sp; c = s.c; n = s.n + 1 }
chosen l false sp s = record { v = s.v; r = sp; c = s.c; n = s.n + 1 }

-- what was read, and the state after it
pub record Out (A : Type 0) : Type 0 where
  pub got : A
  pub then : State

-- one bool at the probability p, over an area of l bits: it is 1 where V is at least S
unfoldable pub read_bool : ℕ → ℕ → State → Out Bool
read_bool l p s =
    let sp = split s.r p in
    let b = leb (sp * 2 ^ l) s.v in
    record { got = b; then = normal 7 l (chosen l b sp s) }

-- what the outside sees beside R: the whole part of V, the count, which follows c, the position, which stops at the area's end, and how
-- many bits the doublings have gone past that end, where zeros were made up. Nothing that is read depends on the last two
unfoldable pub whole : ℕ → State → ℕ
whole l s = s.v / 2 ^ l

unfoldable pub count_of : State → ℕ
count_of s = (8 - s.c % 8) % 8

unfoldable pub position : ℕ → State → ℕ
position l s = min s.c l

unfoldable pub past : ℕ → State → ℕ
past l s = s.c - l

abbrev pub pick : {A : Type 0} → Bool → A → A → A
pick true a b = a
pick false a b = b

-- the bare decoder's refusal of a read, 0 for none: by the area's length, the width asked, the bools wanted and those read so far
abbrev pub refusal_of : ℕ → ℕ → ℕ → ℕ → ℕ
refusal_of size width wanted n =
    pick (leb (2 ^ 28) size) 6 (pick (ltb 31 width) 7 (pick (eqb size 0 && ltb 0 wanted) 4 (pick (ltb 16777216 (n + wanted)) 8 0)))
