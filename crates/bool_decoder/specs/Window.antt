-- What the window of 64 bits holds of V, and the definition's state that it stands for over an area. How many bytes have come in is a
-- function of the doublings, so a window is a function of the area and that state. And the window as an engine.
use Rattle.std.specs.Prelude.{ℕ, ◌+◌, ◌*◌, ◌/◌, ◌%◌, ◌^◌, ◌≤◌, ◌<◌, ◌≡◌, List, ltb, drop, get_or}
use Rattle.rfc6386.specs.Decoder.{number, bits, State, pick}
use Rattle.rfc6386.specs.Reads.{Rd}
use Rattle.bool_decoder.specs.Engine as By
use Rattle.bool_decoder.specs.declared.Window.{Window}

-- the bytes from t on: what the first t leave of the area's number, shifted t bytes up and cut at 2 ^ bits. It is 0 past the end
unfoldable pub rest : List ℕ → ℕ → ℕ
rest area t = number (drop t area) * 256 ^ t

-- v (of V · b, with b = 2 ^ bits) is the window w of m + 8 bits, whose e low bits are zero, followed by the bytes x that are still to come
pub record Holds (m b e x v w : ℕ) : Type 0 where
  pub exact : v * 2 ^ m ≡ w * b + x * 2 ^ e
  pub zeros : w % 2 ^ e ≡ 0
  pub small : w < 2 ^ (m + 8)

-- after c doublings c / 8 + 8 bytes have come in, and c % 8 low bits are free
abbrev pub Held : List ℕ → ℕ → ℕ → ℕ → Type 0
Held area c v w = Holds 56 (2 ^ bits area) (c % 8) (rest area (c / 8 + 8)) v w

-- the v that a window makes with the bytes still to come
unfoldable pub v_of : List ℕ → ℕ → ℕ → ℕ
v_of area c w = (w * 2 ^ bits area + rest area (c / 8 + 8) * 2 ^ (c % 8)) / 2 ^ 56

-- what k doublings leave of it
abbrev pub v_after : List ℕ → ℕ → ℕ → ℕ → ℕ
v_after area c w k = v_of area c w * 2 ^ k % 2 ^ (bits area + 8)

abbrev pub state_of : List ℕ → Window → State
state_of area d = record { v = v_of area d.doublings d.value; r = d.range; c = d.doublings; n = d.bools }

-- a split of this or more makes a bool of 0 and needs no doubling: it is 128 or more, and above the window's whole part
unfoldable pub limit_of : ℕ → ℕ
limit_of w = pick (ltb (w / 2 ^ 56) 127) 128 (w / 2 ^ 56 + 1)

-- d is the fresh window over the area, or one that reads over it have left
pub record Over (area : List ℕ) (d : Window) : Type 0 where
  pub bytes : (i : ℕ) → get_or area i 0 < 256
  pub holds : Held area d.doublings (v_of area d.doublings d.value) d.value
  pub low : 128 ≤ d.range
  pub high : d.range < 256
  pub limit : d.limit ≡ limit_of d.value
  pub few : d.doublings ≤ 7 * d.bools
  pub count : d.bools ≤ 16777216

-- the window as an engine; a window goes by value, with its area beside it
abbrev pub window : By.Engine
window = record { Dec = Window; state_of = state_of; Over = Over }

abbrev pub Good : List ℕ → Window → ℕ → Type 0
Good area d k = By.Good window area d k

abbrev pub Ran : {A : Type 0} → Rd A → List ℕ → Window → A → Window → ℕ → Type 0
Ran m area d a d' k = By.Ran window m area d a d' k
