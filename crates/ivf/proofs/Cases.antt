-- Small recordings, by computation: the last record whole or cut, with room and without.
use Prim.Native.Nat.{ℕ}
use mathlib.Core.Path.{◌≡◌, refl}
use mathlib.Core.List.{List, [], ◌∷◌, ◌++◌}
use lib.ListN.{replicate}
use Rattle.std.proofs.Common.{Ok, Err}
use Rattle.ivf.specs.declared.WalkRefusal.TheVariants.{NoHeader, CutShort, ListFull}
use Rattle.ivf.specs.Ivf.{magic, starts, headed}
use Rattle.ivf.specs.Walk.{Place, step_at, walk_from, walked}

-- what follows is a header in which all that is not looked at is 255, and a record of two bytes
header : List ℕ
header = magic ++ replicate 20 255

two : List ℕ
two = 2 ∷ 0 ∷ 0 ∷ 0 ∷ replicate 8 255 ++ (7 ∷ 8 ∷ [])

at : ℕ → ℕ → Place
at offset size = record { offset = offset; size = size }

no_byte : walked 3 [] ≡ record { frames = []; ended = Err NoHeader }
unfolding walked headed starts
no_byte = refl

header_alone : walked 0 header ≡ record { frames = []; ended = Ok tt }
unfolding walked headed starts walk_from step_at header
header_alone = refl

short_header : walked 1 (magic ++ replicate 19 255) ≡ record { frames = []; ended = Err NoHeader }
unfolding walked headed starts
short_header = refl

-- whole, and both lists full
whole_full : walked 2 (header ++ two ++ two) ≡ record { frames = at 44 2 ∷ at 58 2 ∷ []; ended = Ok tt }
unfolding walked headed starts walk_from step_at header two at
whole_full = refl

-- one record more
one_more : walked 1 (header ++ two ++ two) ≡ record { frames = at 44 2 ∷ []; ended = Err ListFull }
unfolding walked headed starts walk_from step_at header two at
one_more = refl

-- a record that is cut short comes before full lists
cut_full : walked 1 (header ++ two ++ (2 ∷ 0 ∷ 0 ∷ 0 ∷ replicate 9 255)) ≡ record { frames = at 44 2 ∷ []; ended = Err CutShort }
unfolding walked headed starts walk_from step_at header two at
cut_full = refl

-- as large a size as there is
largest : walked 1 (header ++ replicate 40 255) ≡ record { frames = []; ended = Err CutShort }
unfolding walked headed starts walk_from step_at header
largest = refl
