-- What a walk over a file lists, and how it ends: from record to record, by places in the file. proofs/Recordings.antt shows that it lists
-- the frames that the file has.
use Rattle.std.specs.Prelude.{ℕ, zero, suc, ◌+◌, ◌-◌, ◌≤◌, ◌≡◌, List, [], ◌∷◌, ltb, eqb, length, take, drop}
use Rattle.std.specs.Prelude.{Option, None, Some, Result, Ok, Err}
use Rattle.rfc6386.specs.Bytes.{le4}
use Rattle.rfc6386.specs.Decoder.{pick}
use Rattle.ivf.specs.declared.WalkRefusal.{WalkRefusal}
use Rattle.ivf.specs.declared.WalkRefusal.TheVariants.{NoHeader, CutShort, ListFull}
use Rattle.ivf.specs.Ivf.{headed}

-- how a walk ends: at the end of the file, or by a refusal
abbrev pub Ended : Type 0
Ended = Result (Unit {0}) WalkRefusal

-- the number of each refusal (docs/RULES.md)
abbrev pub number_of : WalkRefusal → ℕ
number_of NoHeader = 10
number_of CutShort = 11
number_of ListFull = 12

-- 0 for none
abbrev pub refusal_of : Ended → ℕ
refusal_of (Ok e) = 0
refusal_of (Err r) = number_of r

-- what stands at a place between records: the end of the file, a record that is cut short, or one with so many bytes of a frame
abbrev pub Step : Type 0
Step = Result (Option ℕ) WalkRefusal

unfoldable pub step_at : List ℕ → ℕ → Step
step_at f at =
    pick (eqb (length f - at) 0) (Ok None)
    (pick (ltb (length f - at) 12) (Err CutShort)
    (pick (ltb (length f - at - 12) (le4 f at)) (Err CutShort)
    (Ok (Some (le4 f at)))))

-- where a frame's bytes begin, and how many they are
pub record Place : Type 0 where
  pub offset : ℕ
  pub size : ℕ

pub record Walk : Type 0 where
  pub frames : List Place
  pub ended : Ended

abbrev pub ends : Ended → Walk
ends e = record { frames = []; ended = e }

abbrev pub first : ℕ → ℕ → Walk → Walk
first offset size w = record { frames = record { offset = offset; size = size } ∷ w.frames; ended = w.ended }

-- it ends at the end of the file and at a record that is cut short; after a whole record it goes on
abbrev pub follow : Step → (ℕ → Walk) → Walk
follow (Ok None) go = ends (Ok tt)
follow (Ok (Some n)) go = go n
follow (Err r) go = ends (Err r)

-- from a place on, where so many frames can still be listed
unfoldable pub walk_from : ℕ → List ℕ → ℕ → Walk
walk_from zero f at = follow (step_at f at) (λ n. ends (Err ListFull))
walk_from (suc room) f at = follow (step_at f at) (λ n. first (at + 12) n (walk_from room f (at + 12 + n)))

unfoldable pub walked : ℕ → List ℕ → Walk
walked room f = pick (headed f) (walk_from room f 32) (ends (Err NoHeader))

-- how a walk with this much room ends over a recording of these frames: a rest that is not empty is a record that is cut short
abbrev pub end_of : List ℕ → Ended
end_of [] = Ok tt
end_of (b ∷ bs) = Err CutShort

abbrev pub end_with : ℕ → List (List ℕ) → List ℕ → Ended
end_with room frames rest = pick (ltb room (length frames)) (Err ListFull) (end_of rest)

-- the bytes that stand at each place
unfoldable pub bytes_of : List ℕ → List Place → List (List ℕ)
bytes_of f [] = []
bytes_of f (x ∷ xs) = take x.size (drop x.offset f) ∷ bytes_of f xs

-- places in a file of n bytes: each begins 12 bytes after the one before ends, the first 12 bytes after `at`, and ends within the file
unfoldable pub Spaced : ℕ → ℕ → List Place → Type 0
Spaced n at [] = Unit {0}
Spaced n at (x ∷ xs) = (x.offset ≡ at + 12) × (x.offset + x.size ≤ n) × Spaced n (x.offset + x.size) xs
