-- Sequences of calls as running code makes them: one after the other, each over the record that the one before left.
use Rattle.std.specs.Prelude.{◌≡◌, List, [], ◌∷◌}
use Rattle.vp8_records.specs.declared.Parser.{Parser}
use Rattle.vp8_records.specs.declared.Parsed.{Parsed}
use Rattle.rfc6386.specs.Call.{Asked, called}

-- the answers rs were given to what was asked, from a record to the one that is left, each by the contract C of one call:
-- C p x a q says that the answer a to x over the record p leaves the record q
pub data Answered (A : Type 0) (C : Parser → Asked → A → Parser → Type 0) : Parser → List Asked → List A → Parser → Type 0 where
  stop : {p : Parser} → Answered A C p [] [] p
  next : {p q s : Parser} {x : Asked} {xs : List Asked} {a : A} {rs : List A} → C p x a q → Answered A C q xs rs s
      → Answered A C p (x ∷ xs) (a ∷ rs) s

-- the contract of `parse`, whose caller goes on with the record in the answer
abbrev pub ByValue : Parser → Asked → Parsed → Parser → Type 0
ByValue p x a q = (a ≡ called p x) × (q ≡ a.parser)

-- what g makes of each call
unfoldable pub shows : {A : Type 0} → (Parser → Asked → A) → Parser → List Asked → List A
shows g p [] = []
shows g p (x ∷ xs) = g p x ∷ shows g (called p x).parser xs
