-- How a walk fills the lists that it is lent.
use Rattle.std.specs.Prelude.{ℕ, min, ◌≡◌, List, [], ◌∷◌, ◌++◌, map, length, drop}
use Rattle.ivf.specs.declared.Walked.{Walked}
use Rattle.ivf.specs.Walk.{Place, Walk, walked}

-- these entries first, and the later ones as they were
abbrev pub over : List ℕ → List ℕ → List ℕ
over xs old = xs ++ drop (length xs) old

-- how many frames both lists have room for
abbrev pub room : List ℕ → List ℕ → ℕ
room offsets lengths = min (length offsets) (length lengths)

-- the answer and both lists, before and after, for this walk
pub record Lists (w : Walk) (r : Walked) (offsets offsets' lengths lengths' : List ℕ) : Type 0 where
  pub count : r.count ≡ length w.frames
  pub ended : r.ended ≡ w.ended
  pub offsets_are : offsets' ≡ over (map (λ (x : Place). x.offset) w.frames) offsets
  pub lengths_are : lengths' ≡ over (map (λ (x : Place). x.size) w.frames) lengths

-- the contract of `walk`
abbrev pub Listed : List ℕ → Walked → List ℕ → List ℕ → List ℕ → List ℕ → Type 0
Listed f r os os' ls ls' = Lists (walked (room os ls) f) r os os' ls ls'

-- the places that two lists name, entry by entry
unfoldable pub places_of : List ℕ → List ℕ → List Place
places_of [] ls = []
places_of (o ∷ os) [] = []
places_of (o ∷ os) (l ∷ ls) = record { offset = o; size = l } ∷ places_of os ls
