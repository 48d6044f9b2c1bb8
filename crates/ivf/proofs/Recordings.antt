-- A walk lists the frames that a file has: a whole record as a writer puts it down is what a step finds, and the other way round; so by
-- induction over the records. Every file with a header has frames and a rest, and no others.
use Prim.Native.Nat.{ℕ, zero, suc, ◌+◌, ◌-◌, ◌≤◌, ◌<◌}
use native.Mathlib.Nat.{add-zero}
use native.Mathlib.Omega.{arith}
use native.Mathlib.Decide.{dec_le}
use mathlib.Core.Path.{◌≡◌, refl, sym, ap, ap₂, ◌∙◌}
use mathlib.Core.Bool.{true}
use mathlib.Core.List.{List, [], ◌∷◌, ◌++◌, map}
use borrow.Author.Tests.{lt-ltb, le-ltb}
use lib.Dec.{ltb}
use lib.ListN.{length, get_or, take, drop, length-append, length-drop, take-append-drop, drop_of_length-le}
use lib.Seq.{take-nil, take-append-le, drop-append-le, take_at, drop_at, take-add, drop-drop, get_or-take, get_or-drop, length-take-le}
use Rattle.rfc6386.specs.Bytes.{le4}
use Rattle.std.proofs.Common.{Some, None, Ok, Err}
use Rattle.ivf.specs.declared.WalkRefusal.TheVariants.{ListFull}
use Rattle.ivf.specs.Ivf.{headed, Whole, Records, none, next, Recording}
use Rattle.ivf.specs.Walk.{Step, step_at, Place, walk_from, walked, end_of, end_with, bytes_of}
use Rattle.ivf.proofs.Steps.{a_frame, fits, done_left, cut_left, walk_done, walk_cut, walk_full, walk_frame, headed_long}

-- the size is told by the first four bytes
first_four : (s : List ℕ) → le4 (take 4 s) 0 ≡ le4 s 0
first_four s =
    let byte : (i : ℕ) → i < 4 → get_or (take 4 s) i 0 ≡ get_or s i 0 = λ i h. get_or-take 4 s i 0 h in
    omega (arith, byte 0 (omega arith), byte 1 (omega arith), byte 2 (omega arith), byte 3 (omega arith))

from_place : (f : List ℕ) (at : ℕ) → le4 (drop at f) 0 ≡ le4 f at
from_place f at =
    omega (arith, get_or-drop at f 0 0 ∙ ap (λ (k : ℕ). get_or f k 0) (add-zero at), get_or-drop at f 1 0, get_or-drop at f 2 0, get_or-drop at f 3 0)

-- a whole record, part by part
pub record Parts (s x t : List ℕ) : Type 0 where
  pub size : le4 s 0 ≡ length x
  pub enough : length s ≡ 12 + length x + length t
  pub frame : take (length x) (drop 12 s) ≡ x
  pub rest : drop (12 + length x) s ≡ t

parts : {s x t : List ℕ} → Whole s x t → Parts s x t
parts {s} {x} {t} w =
    let head : List ℕ = w.size ++ w.stamp in
    let twelve : length head ≡ 12 = omega (arith, length-append w.size w.stamp, w.four, w.eight) in
    let up : length (head ++ x) ≡ 12 + length x = omega (arith, length-append head x, twelve) in
    let four : take 4 s ≡ w.size =
    ap (take 4) w.bytes ∙ take-append-le 4 (head ++ x) t (omega (arith, up)) ∙ take-append-le 4 head x (omega (arith, twelve))
    ∙ take_at w.size w.stamp 4 w.four in
    let after : drop 12 s ≡ x ++ t =
    ap (drop 12) w.bytes ∙ drop-append-le 12 (head ++ x) t (omega (arith, up))
    ∙ ap (λ (l : List ℕ). l ++ t) (drop_at head x 12 twelve) in
    record {
      size = sym (first_four s) ∙ ap (λ (l : List ℕ). le4 l 0) four ∙ w.counted;
      enough = ap length w.bytes ∙ length-append (head ++ x) t ∙ ap (λ (n : ℕ). n + length t) up;
      frame = ap (take (length x)) after ∙ take_at x t (length x) refl;
      rest = ap (drop (12 + length x)) w.bytes ∙ drop_at (head ++ x) t (12 + length x) up;
    }

-- one record at a time: no other frame, no other rest
whole_only : {s x t x' t' : List ℕ} → Whole s x t → Whole s x' t' → (x ≡ x') × (t ≡ t')
whole_only {s} {x} {t} {x'} {t'} w w' =
    let p = parts w in
    let q = parts w' in
    let n : length x ≡ length x' = sym p.size ∙ q.size in (
      sym p.frame ∙ ap (λ (k : ℕ). take k (drop 12 s)) n ∙ q.frame,
      sym p.rest ∙ ap (λ (k : ℕ). drop (12 + k) s) n ∙ q.rest,
    )

module _ (f : List ℕ) (at : ℕ) where
  -- a step finds a whole record that stands there
  whole_step : {x t : List ℕ} → at ≤ length f → Whole (drop at f) x t → step_at f at ≡ Ok (Some (length x))
  whole_step {x} {t} h w =
      let p = parts w in
      let left : length f - at ≡ 12 + length x + length t = sym (length-drop at f) ∙ p.enough in
      let size : le4 f at ≡ length x = sym (from_place f at) ∙ p.size in
      sym (a_frame f at (λ z. omega (arith, left, z)) (omega (arith, left)) (omega (arith, left, size))) ∙ ap (λ (n : ℕ). Ok (Some n)) size

  frame_bytes : {x t : List ℕ} → Whole (drop at f) x t → take (length x) (drop (at + 12) f) ≡ x
  frame_bytes {x} w = ap (take (length x)) (sym (drop-drop 12 at f)) ∙ (parts w).frame

  rest_bytes : {x t : List ℕ} → Whole (drop at f) x t → t ≡ drop (at + 12 + length x) f
  rest_bytes {x} w =
      let far : at + (12 + length x) ≡ at + 12 + length x = omega arith in
      sym (parts w).rest ∙ drop-drop (12 + length x) at f ∙ ap (λ (k : ℕ). drop k f) far

  -- and what a step finds is one
  step_whole : {n : ℕ} → at ≤ length f → step_at f at ≡ Ok (Some n) → Whole (drop at f) (take n (drop (at + 12) f)) (drop (at + 12 + n) f)
  step_whole {n} h e =
      let s : List ℕ = drop at f in
      let end = (fits f at h e).0 in
      let far : at + (12 + n) ≡ at + 12 + n = omega arith in
      let there : drop 12 s ≡ drop (at + 12) f = drop-drop 12 at f in
      let beyond : drop (12 + n) s ≡ drop (at + 12 + n) f = drop-drop (12 + n) at f ∙ ap (λ (k : ℕ). drop k f) far in
      record {
        size = take 4 s;
        stamp = take 8 (drop 4 s);
        bytes = sym (take-append-drop (12 + n) s)
            ∙ ap₂ (λ (a b : List ℕ). a ++ b)
            (take-add 12 n s ∙ ap₂ (λ (a b : List ℕ). a ++ b) (take-add 4 8 s) (ap (take n) there))
            beyond;
        four = length-take-le 4 s (omega (arith, length-drop at f, end));
        eight = length-take-le 8 (drop 4 s) (omega (arith, length-drop at f, length-drop 4 s, end));
        counted = first_four s ∙ from_place f at ∙ (fits f at h e).1
            ∙ sym (length-take-le n (drop (at + 12) f) (omega (arith, length-drop (at + 12) f, end)));
      }

-- what a walk from a place on lists of these frames, and how it ends
record Lists (k : ℕ) (f : List ℕ) (at : ℕ) (fs : List (List ℕ)) (rest : List ℕ) : Type 0 where
  pub frames : bytes_of f (walk_from k f at).frames ≡ take k fs
  pub sizes : map (λ (x : Place). x.size) (walk_from k f at).frames ≡ map length (take k fs)
  pub ended : (walk_from k f at).ended ≡ end_with k fs rest

cut_end : (rest : List ℕ) → 1 ≤ length rest → end_of rest ≡ end_of (0 ∷ [])
cut_end [] h = absurd (omega (arith, h))
cut_end (b ∷ bs) h = refl

-- where no whole record follows
at_rest : (k : ℕ) (f : List ℕ) (at : ℕ) → at ≤ length f → ((x t : List ℕ) → Whole (drop at f) x t → ⊥) → (s : Step) → step_at f at ≡ s
    → Lists k f at [] (drop at f)
unfolding bytes_of
at_rest k f at h over (Ok None) e =
    let nothing : drop at f ≡ [] = drop_of_length-le f {i = at} (omega (arith, done_left f at e)) in
    record {
      frames = rw (walk_done f at k e, take-nil {A = List ℕ} k);
      sizes = rw (walk_done f at k e, take-nil {A = List ℕ} k);
      ended = rw (walk_done f at k e, nothing, le-ltb k 0 (omega arith));
    }
at_rest k f at h over (Err r) e =
    let some : end_of (drop at f) ≡ end_of (0 ∷ []) = cut_end (drop at f) (omega (arith, length-drop at f, cut_left f at e)) in
    record {
      frames = rw (walk_cut f at k e, take-nil {A = List ℕ} k);
      sizes = rw (walk_cut f at k e, take-nil {A = List ℕ} k);
      ended = rw (walk_cut f at k e, le-ltb k 0 (omega arith), some, (cut_left f at e).1);
    }
at_rest k f at h over (Ok (Some n)) e = absurd (over _ _ (step_whole f at h e))

one_more : (k n : ℕ) → ltb (suc k) (suc n) ≡ ltb k n
one_more k n = go (dec_le (suc k) n)
  where
    go : Dec (suc k ≤ n) → ltb (suc k) (suc n) ≡ ltb k n
    go (yes h) = lt-ltb (suc k) (suc n) (omega arith) ∙ sym (lt-ltb k n h)
    go (no h) = le-ltb (suc k) (suc n) (omega arith) ∙ sym (le-ltb k n (omega arith))

-- where one does
at_whole : (k : ℕ) (f : List ℕ) (at : ℕ) {x t rest : List ℕ} {fs : List (List ℕ)} → at ≤ length f → Whole (drop at f) x t
    → ((k : ℕ) → Lists k f (at + 12 + length x) fs rest) → Lists k f at (x ∷ fs) rest
unfolding bytes_of
at_whole zero f at {x} {fs = fs} h w more =
    let here = walk_full f at (whole_step f at h w) in
    record { frames = rw here; sizes = rw here; ended = rw (here, lt-ltb 0 (suc (length fs)) (omega arith)) }
at_whole (suc k) f at {x} {fs = fs} h w more =
    let here = walk_frame f at k (whole_step f at h w) in
    record {
      frames = rw here (ap₂ {C = List (List ℕ)} (λ y ys. y ∷ ys) (frame_bytes f at w) (more k).frames);
      sizes = rw here (ap (λ (ns : List ℕ). length x ∷ ns) (more k).sizes);
      ended = rw (here, one_more k (length fs)) (more k).ended;
    }

lists : {s rest : List ℕ} {fs : List (List ℕ)} → Records s fs rest → (f : List ℕ) (at : ℕ) → s ≡ drop at f → at ≤ length f
    → ((x t : List ℕ) → Whole rest x t → ⊥) → (k : ℕ) → Lists k f at fs rest
lists none f at e h over k = rw e (at_rest k f at h (rw e at over) (step_at f at) refl)
lists (next {x = x} w r) f at e h over k =
    let here = rw e at w in
    at_whole k f at h here
    (λ k. lists r f (at + 12 + length x) (rest_bytes f at here) (fits f at h (whole_step f at h here)).0 over k)

module _ {f rest : List ℕ} {fs : List (List ℕ)} (r : Recording f fs rest) where
  headed_at : 32 ≤ length f
  headed_at = headed_long f r.header

  -- the frames that a walk lists are those that the file has, as far as there is room
  pub walked_frames : (room : ℕ) → bytes_of f (walked room f).frames ≡ take room fs
  unfolding walked
  walked_frames room = rw r.header (lists r.records f 32 refl headed_at r.last room).frames

  -- with their lengths
  pub walked_sizes : (room : ℕ) → map (λ (x : Place). x.size) (walked room f).frames ≡ map length (take room fs)
  unfolding walked
  walked_sizes room = rw r.header (lists r.records f 32 refl headed_at r.last room).sizes

  -- and it ends as the file does, or where there is no more room
  pub walked_ended : (room : ℕ) → (walked room f).ended ≡ end_with room fs rest
  unfolding walked
  walked_ended room = rw r.header (lists r.records f 32 refl headed_at r.last room).ended

  -- so where it does not end for want of room, there was room for all
  pub enough : (room : ℕ) → ((walked room f).ended ≡ Err ListFull → ⊥) → length fs ≤ room
  enough room e = go (dec_le (length fs) room)
    where
      go : Dec (length fs ≤ room) → length fs ≤ room
      go (yes h) = h
      go (no h) = absurd (e (walked_ended room ∙ rw (lt-ltb room (length fs) (omega (arith, h)))))

-- nothing follows the last record of a file that ends there
pub ends_there : (x t : List ℕ) → Whole [] x t → ⊥
ends_there x t w = omega (arith, (parts w).enough)

-- what is left of a file at a place, in frames and a rest
record Parted (s : List ℕ) : Type 0 where
  pub frames : List (List ℕ)
  pub rest : List ℕ
  pub records : Records s frames rest
  pub last : (x t : List ℕ) → Whole rest x t → ⊥

part_none : (f : List ℕ) (at : ℕ) → ((x t : List ℕ) → Whole (drop at f) x t → ⊥) → Parted (drop at f)
part_none f at over = record { frames = []; rest = drop at f; records = none; last = over }

part_step : (f : List ℕ) (at : ℕ) → at ≤ length f → ((n : ℕ) → at + 12 + n ≤ length f → Parted (drop (at + 12 + n) f)) → (s : Step)
    → step_at f at ≡ s → Parted (drop at f)
part_step f at h more (Ok None) e =
    part_none f at (λ x t w. let z : ◌≡◌ {A = ℕ} 0 1 = cc (sym e ∙ whole_step f at h w) in omega arith)
part_step f at h more (Err r) e =
    part_none f at (λ x t w. let z : ◌≡◌ {A = ℕ} 0 1 = cc (sym e ∙ whole_step f at h w) in omega arith)
part_step f at h more (Ok (Some n)) e =
    let p = more n (fits f at h e).0 in
    record {
      frames = take n (drop (at + 12) f) ∷ p.frames;
      rest = p.rest;
      records = next (step_whole f at h e) p.records;
      last = p.last;
    }

-- each record is at least 12 bytes, so they come to an end
parted : (k : ℕ) (f : List ℕ) (at : ℕ) → at ≤ length f → length f < at + k → Parted (drop at f)
parted zero f at h g = absurd (omega (arith, h, g))
parted (suc k) f at h g = part_step f at h (λ n l. parted k f (at + 12 + n) l (omega (arith, g))) (step_at f at) refl

-- every file with a header is a recording
pub has : (f : List ℕ) → headed f ≡ true → (fs : List (List ℕ)) × (rest : List ℕ) × Recording f fs rest
has f e =
    let p = parted (suc (length f)) f 32 (headed_long f e) (omega arith) in
    (p.frames, p.rest, record { header = e; records = p.records; last = p.last })

-- of no other frames, and with no other rest
records_only : {s rest : List ℕ} {fs : List (List ℕ)} → Records s fs rest → ((x t : List ℕ) → Whole rest x t → ⊥)
    → {s' rest' : List ℕ} {fs' : List (List ℕ)} → s ≡ s' → Records s' fs' rest' → ((x t : List ℕ) → Whole rest' x t → ⊥)
    → (fs ≡ fs') × (rest ≡ rest')
records_only none over e none over' = (refl, e)
records_only none over e (next {x = x} {t = t} w r) over' = absurd (over x t (rw e w))
records_only (next {x = x} {t = t} w r) over e none over' = absurd (over' x t (rw e at w))
records_only (next w r) over e (next {x = x'} {t = t'} w' r') over' =
    let one = whole_only {x' = x'} {t' = t'} w (rw e w') in
    let ih = records_only r over one.1 r' over' in
    (ap₂ {C = List (List ℕ)} (λ y ys. y ∷ ys) one.0 ih.0, ih.1)

pub only : {f rest rest' : List ℕ} {fs fs' : List (List ℕ)} → Recording f fs rest → Recording f fs' rest' → (fs ≡ fs') × (rest ≡ rest')
only r r' = records_only r.records r.last refl r'.records r'.last
