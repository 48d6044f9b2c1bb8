-- A literal in parts. A literal is its bools, the high bit first (RFC 6386 section 8), so literals one after another make one literal: each
-- part stands above the bits of those after it. And by which number a row of them is refused, each read by the bare decoder.
use Rattle.std.specs.Prelude.{ℕ, zero, suc, ◌+◌, ◌*◌, ◌/◌, ◌%◌, ◌^◌, ◌<◌, ◌≡◌, List, [], ◌∷◌}
use Rattle.rfc6386.specs.Decoder.{refusal_of}
use Rattle.rfc6386.specs.Frame.{sum}

-- a first part, above the b bits of the second
abbrev pub beside : ℕ → ℕ → ℕ → ℕ
beside b y z = y * 2 ^ b + z

-- the values of parts of these widths, as one number
unfoldable pub together : List ℕ → List ℕ → ℕ
together [] vs = 0
together (w ∷ ws) [] = 0
together (w ∷ ws) (v ∷ vs) = beside (sum ws) v (together ws vs)

-- a number, as parts of these widths
unfoldable pub parted : List ℕ → ℕ → List ℕ
parted [] v = []
parted (w ∷ ws) v = v / 2 ^ sum ws ∷ parted ws (v % 2 ^ sum ws)

-- the refusal of a literal of w bools where n were read before it; 0 for none
abbrev pub lit_refusal : ℕ → ℕ → ℕ → ℕ
lit_refusal size w n = refusal_of size w w n

-- this refusal, or the next where it is 0
abbrev pub or_next : ℕ → ℕ → ℕ
or_next zero next = next
or_next (suc k) next = suc k

-- the refusal of literals of these widths one after another: that of the first that is refused
unfoldable pub parts_refusal : ℕ → List ℕ → ℕ → ℕ
parts_refusal size [] n = 0
parts_refusal size (w ∷ ws) n = or_next (lit_refusal size w n) (parts_refusal size ws (n + w))

-- why a whole of a + b bools is refused where its first part is not
pub data Halfway (size a b n : ℕ) : Type 0 where
  -- by the width limit
  wide : 31 < a + b → Halfway size a b n
  -- by the area, from which only a literal of no bools is read
  empty : size ≡ 0 → a ≡ 0 → 0 < b → Halfway size a b n
  -- by the limit of bools
  full : 16777216 < n + (a + b) → Halfway size a b n
