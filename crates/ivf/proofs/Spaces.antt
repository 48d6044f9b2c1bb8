-- The frames of every walk lie within the file, each 12 bytes after the one before; and one that finds the lists full has passed that many
-- records, of 12 bytes at least, and one more. By induction over the room.
use Prim.Native.Nat.{ℕ, zero, suc, ◌+◌, ◌*◌, ◌≤◌}
use native.Mathlib.Omega.{arith}
use mathlib.Core.Path.{◌≡◌, refl, ap}
use mathlib.Core.Bool.{Bool, true, false}
use mathlib.Core.List.{List}
use lib.ListN.{length}
use Rattle.std.proofs.Common.{Some, None, Ok, Err}
use Rattle.ivf.specs.declared.WalkRefusal.TheVariants.{ListFull}
use Rattle.ivf.specs.Ivf.{headed}
use Rattle.ivf.specs.Walk.{number_of, refusal_of, Step, step_at, Walk, walk_from, walked, Spaced}
use Rattle.ivf.proofs.Steps.{fits, cut_left, walk_done, walk_cut, walk_full, walk_frame, headed_long}

-- both of a walk from a place on, with room for k frames
record Spaces (f : List ℕ) (k at : ℕ) (w : Walk) : Type 0 where
  pub spaced : Spaced (length f) at w.frames
  pub full : w.ended ≡ Err ListFull → at + 12 * suc k ≤ length f

spaces_last : (f : List ℕ) (at : ℕ) → at ≤ length f → (s : Step) → step_at f at ≡ s → Spaces f 0 at (walk_from 0 f at)
unfolding Spaced
spaces_last f at h (Ok None) e = rw (walk_done f at 0 e) (record { spaced = tt; full = λ z. omega (arith, ap refusal_of z) })
spaces_last f at h (Err r) e =
    rw (walk_cut f at 0 e) (record { spaced = tt; full = λ z. omega (arith, ap refusal_of z, ap number_of (cut_left f at e).1) })
spaces_last f at h (Ok (Some n)) e = rw (walk_full f at e) (record { spaced = tt; full = λ z. omega (arith, (fits f at h e).0) })

spaces_next : (k : ℕ) (f : List ℕ) (at : ℕ) → at ≤ length f
    → ((n : ℕ) → at + 12 + n ≤ length f → Spaces f k (at + 12 + n) (walk_from k f (at + 12 + n)))
    → (s : Step) → step_at f at ≡ s → Spaces f (suc k) at (walk_from (suc k) f at)
unfolding Spaced
spaces_next k f at h more (Ok None) e = rw (walk_done f at (suc k) e) (record { spaced = tt; full = λ z. omega (arith, ap refusal_of z) })
spaces_next k f at h more (Err r) e =
    rw (walk_cut f at (suc k) e) (record { spaced = tt; full = λ z. omega (arith, ap refusal_of z, ap number_of (cut_left f at e).1) })
spaces_next k f at h more (Ok (Some n)) e =
    let end = (fits f at h e).0 in
    let m = more n end in
    rw (walk_frame f at k e) (record { spaced = (refl, end, m.spaced); full = λ z. omega (arith, m.full z) })

spaces_from : (k : ℕ) (f : List ℕ) (at : ℕ) → at ≤ length f → Spaces f k at (walk_from k f at)
spaces_from zero f at h = spaces_last f at h (step_at f at) refl
spaces_from (suc k) f at h = spaces_next k f at h (λ n g. spaces_from k f (at + 12 + n) g) (step_at f at) refl

spaces : (room : ℕ) (f : List ℕ) → Spaces f room 32 (walked room f)
unfolding walked Spaced
spaces room f = go (headed f) refl
  where
    go : (b : Bool) → headed f ≡ b → Spaces f room 32 (walked room f)
    go false e = rw e (record { spaced = tt; full = λ z. omega (arith, ap refusal_of z) })
    go true e = rw e (spaces_from room f 32 (headed_long f e))

pub walked_spaced : (room : ℕ) (f : List ℕ) → Spaced (length f) 32 (walked room f).frames
walked_spaced room f = (spaces room f).spaced

-- so lists of 5,458 entries are enough for every file of at most 65,536 bytes
pub full_needs : (room : ℕ) (f : List ℕ) → (walked room f).ended ≡ Err ListFull → 32 + 12 * suc room ≤ length f
full_needs room f = (spaces room f).full

pub never_full : (f : List ℕ) → length f ≤ 65536 → (walked 5458 f).ended ≡ Err ListFull → ⊥
never_full f h e = omega (arith, full_needs 5458 f e)
