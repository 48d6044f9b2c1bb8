-- The line that tells a script (docs/RULES.md, "The programs"): for each read what it gave, `,@` and the position after it, `+` and the
-- bits past the end, with spaces between the reads; then ` |` and range, value, count, position and bits past the end.
use Rattle.std.specs.Prelude.{ℕ, ◌≡◌, Bool, true, false, List, [], ◌∷◌, ◌++◌, Result, Ok, Err}
use Rattle.std.specs.Borrow.{Bor}
use Rattle.rfc6386.specs.Decoder.{State, Out, bits, start, whole, count_of, position, past}
use Rattle.rfc6386.specs.Reads.{bit}
use Rattle.bool_decoder.specs.Refusal.{number_of}
use Rattle.bool_decoder.specs.declared.ReadRefusal.{ReadRefusal}
use Rattle.text.specs.Digits.{decimal_of, signed_of}
use Rattle.text.specs.Template.{ascii, filled}
use Rattle.text.specs.Text.{Text, puts}
use Rattle.bool_slow.specs.Asks.{Ask, answered, Value, Bit, Plain, Signed, Refused}
use Rattle.bool_script.specs.Script.{ask_of, Leaves}

-- a value in decimal; `r` and the number of a refusal
unfoldable pub value_text : Value → List ℕ
value_text (Bit b) = decimal_of (bit b)
value_text (Plain n) = decimal_of n
value_text (Signed z) = signed_of z
value_text (Refused k) = 114 ∷ decimal_of k

-- the value is told after the text t; a refusal is still to be told
abbrev pub Told : {X : Type 0} → Value → Text → Text → Result X ReadRefusal → Type 0
Told v t u (Ok x) = u ≡ puts t (value_text v)
Told v t u (Err e) = (u ≡ t) × (v ≡ Refused (number_of e))

-- so it is of a read from d on, which leaves d'
pub record Tells {D X : Type 0} (area_of : D → Bor (List ℕ)) (state_of : D → State) (a : Ask) (d : D) (t : Text) (r : Result X ReadRefusal)
    (d' : D) (u : Text) : Type 0 where
  pub leaves : Leaves area_of state_of a d d'
  pub told : Told (answered (area_of d).now a (state_of d)).got t u r

-- one read: what it gave, the position after it, and the bits past the end
unfoldable pub read_text : ℕ → Out Value → List ℕ
read_text l o = value_text o.got ++ filled (ascii ",@|+|") (position l o.then ∷ past l o.then ∷ [])

-- a space before every read but the first
abbrev pub gap_text : Bool → List ℕ
gap_text true = []
gap_text false = 32 ∷ []

-- the end of a line: a bar, and the numbers that the decoder shows, each after a space
unfoldable pub end_text : ℕ → State → List ℕ
end_text l s = ascii " |" ++ filled (ascii " | | | | |") (s.r ∷ whole l s ∷ count_of s ∷ position l s ∷ past l s ∷ [])

-- the reads from a state on, the first of all where `first` is set; a byte without its second is no read
unfoldable pub line_from : List ℕ → Bool → List ℕ → State → List ℕ
line_from area first [] s = end_text (bits area) s
line_from area first (k ∷ []) s = end_text (bits area) s
line_from area first (k ∷ (n ∷ reads)) s =
    let o = answered area (ask_of k n) s in
    gap_text first ++ (read_text (bits area) o ++ line_from area false reads o.then)

unfoldable pub line_of : List ℕ → List ℕ → List ℕ
line_of area reads = line_from area true reads (start area)
