-- A recording in IVF, as the libvpx tools write it: a header of 32 bytes, then records, each a frame's size in 4 bytes, a timestamp in 8,
-- and the frame; numbers have their least significant byte first. Which frames a file has, by what a writer puts down, and not by a walk.
use Rattle.std.specs.Prelude.{ℕ, ◌≡◌, Bool, true, false, List, [], ◌∷◌, ◌++◌, ltb, eqb, length, drop}
use Rattle.rfc6386.specs.Bytes.{le4}
use Rattle.rfc6386.specs.Decoder.{pick}

-- whether a list starts with these bytes
unfoldable pub starts : List ℕ → List ℕ → Bool
starts [] f = true
starts (x ∷ xs) [] = false
starts (x ∷ xs) (y ∷ ys) = pick (eqb y x) (starts xs ys) false

-- DKIF, version 0, header length 32, VP80; nothing else of a header is looked at, the count of frames least of all
abbrev pub magic : List ℕ
magic = 68 ∷ 75 ∷ 73 ∷ 70 ∷ 0 ∷ 0 ∷ 32 ∷ 0 ∷ 86 ∷ 80 ∷ 56 ∷ 48 ∷ []

unfoldable pub headed : List ℕ → Bool
headed f = pick (ltb (length f) 32) false (starts magic f)

-- these bytes are a whole record of this frame, and what follows it
pub record Whole (s frame after : List ℕ) : Type 0 where
  pub size : List ℕ
  pub stamp : List ℕ
  pub bytes : s ≡ size ++ stamp ++ frame ++ after
  pub four : length size ≡ 4
  pub eight : length stamp ≡ 8
  pub counted : le4 size 0 ≡ length frame

-- whole records of these frames, one after the other, and what follows the last
pub data Records : List ℕ → List (List ℕ) → List ℕ → Type 0 where
  none : {rest : List ℕ} → Records rest [] rest
  next : {s x t rest : List ℕ} {xs : List (List ℕ)} → Whole s x t → Records t xs rest → Records s (x ∷ xs) rest

-- a recording of these frames, and a rest in which no whole record follows: it is empty, or a record that is cut short
pub record Recording (f : List ℕ) (frames : List (List ℕ)) (rest : List ℕ) : Type 0 where
  pub header : headed f ≡ true
  pub records : Records (drop 32 f) frames rest
  pub last : (x t : List ℕ) → Whole rest x t → ⊥
