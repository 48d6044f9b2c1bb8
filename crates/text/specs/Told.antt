-- What a clause says of a text: where it stands, which bytes are there, and how many of them are the text. `place` and `items` are those of
-- its kind of buffer.
use Rattle.std.specs.Prelude.{ℕ, List, ◌≡◌}
use Rattle.text.specs.Text.{Text, standing, puts}
use Rattle.text.specs.declared.Text as D

abbrev pub told : {B : Type 0} → (B → ℕ) → (B → List ℕ) → D.Text B → Text
told place items t = standing (place t.buffer) (items t.buffer) t.count

-- the second text is the first with these bytes after it
abbrev pub Puts : {B : Type 0} → (B → ℕ) → (B → List ℕ) → D.Text B → List ℕ → D.Text B → Type 0
Puts place items t xs t' = told place items t' ≡ puts (told place items t) xs
