-- What the search for a bool that is set says: the bools of a table of chances before it are all 0.
use Rattle.std.specs.Prelude.{ℕ, ◌+◌, ◌-◌, ◌≤◌, ◌<◌, ◌≡◌, true, false, List, length, get_or, Option, Some, None}
use Rattle.rfc6386.specs.Reads.{bool}
use Rattle.bool_decoder.specs.Window.{Good, Ran}
use Rattle.bool_decoder.specs.Model.{Room}
use Rattle.bool_decoder.specs.declared.Window.{Window}
use Rattle.bool_decoder.specs.declared.BoolDecoder.{BoolDecoder}

-- the window with a range of low + 1, after n zeros
abbrev pub narrowed : Window → ℕ → ℕ → Window
narrowed d low n = record { range = low + 1; limit = d.limit; value = d.value; doublings = d.doublings; bools = d.bools + n }

-- the entries of the table t from i on may be read from d
pub record Ahead (area t : List ℕ) (i : ℕ) (d : Window) : Type 0 where
  pub order : i ≤ length t
  pub good : Good area d (length t - i)

-- the bools of the entries i to j, without j, are 0, and from d they leave the last window
pub data Quiet (area t : List ℕ) (i : ℕ) (d : Window) : ℕ → Window → Type 0 where
  here : Quiet area t i d i d
  past : {j : ℕ} {e e' : Window} → Quiet area t i d j e → Ran (bool (get_or t j 0)) area e false e' 1
      → Quiet area t i d (j + 1) e'

-- the first of the table t whose bool is set, or none where all are 0
pub data Finds (area t : List ℕ) (d : Window) : Option ℕ → Window → Type 0 where
  hit : {j : ℕ} {e e' : Window} → j < length t → Quiet area t 0 d j e → Ran (bool (get_or t j 0)) area e true e' 1
      → Finds area t d (Some j) e'
  miss : {e : Window} → Quiet area t 0 d (length t) e → Finds area t d None e

-- of a decoder, over its own area: it may read these entries
pub record ReadsAhead (t : List ℕ) (i : ℕ) (d : BoolDecoder) : Type 0 where
  pub order : i ≤ length t
  pub room : Room d (length t - i)

-- it has passed over so many zeros, and not all need be
pub record Skips (t : List ℕ) (i : ℕ) (d : BoolDecoder) (j : ℕ) (e : BoolDecoder) : Type 0 where
  pub within : j ≤ length t
  pub quiet : Quiet d.area.now t i d.window j e.window
  pub area : e.area ≡ d.area

-- it has read up to the first whose bool is set, or all
pub record Seeks (t : List ℕ) (d : BoolDecoder) (place : Option ℕ) (e : BoolDecoder) : Type 0 where
  pub finds : Finds d.area.now t d.window place e.window
  pub area : e.area ≡ d.area
