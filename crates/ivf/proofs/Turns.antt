-- The loop over the records: what is left of the walk, stored from the next entry on, makes the whole.
use Prim.Native.Nat.{ℕ, suc, ◌+◌, ◌-◌, ◌≤◌, ◌<◌, min}
use native.Mathlib.Nat.{zero-add}
use native.Mathlib.Numerals.{add-one}
use native.Mathlib.Omega.{arith}
use mathlib.Core.Path.{◌≡◌, refl, ap, ◌∙◌}
use mathlib.Core.Bool.{true, false}
use mathlib.Core.List.{List, ◌++◌, map}
use lib.ListN.{length, drop, set, length-set, length-map}
use lib.Seq.{sets, sets-eq}
use Rattle.std.proofs.Common.{Some, Ok, Err}
use Rattle.ivf.specs.declared.WalkRefusal.TheVariants.{NoHeader, ListFull}
use Rattle.ivf.specs.Ivf.{headed}
use Rattle.ivf.specs.Walk.{Ended, step_at, Place, ends, first, walk_from, walked}
use Rattle.ivf.specs.Listed.{over, Lists, Listed}
use Rattle.ivf.proofs.Steps.{fits, walk_full, walk_frame}

from_first : (l vs : List ℕ) → length vs ≤ length l → sets l 0 vs ≡ over vs l
from_first l vs h = sets-eq vs l 0 (omega arith) ∙ ap (λ (n : ℕ). vs ++ drop n l) (zero-add (length vs))

pub record Turn (f os₀ ls₀ : List ℕ) (room : ℕ) (os ls : List ℕ) (at count : ℕ) : Type 0 where
  pub within : at ≤ length f
  pub few : count ≤ room
  pub for_offsets : room ≤ length os₀
  pub for_lengths : room ≤ length ls₀
  pub same_offsets : length os ≡ length os₀
  pub same_lengths : length ls ≡ length ls₀
  pub counted : count + length (walk_from (room - count) f at).frames ≡ length (walk_from room f 32).frames
  pub ending : (walk_from (room - count) f at).ended ≡ (walk_from room f 32).ended
  pub offsets : sets os count (map (λ (x : Place). x.offset) (walk_from (room - count) f at).frames)
      ≡ sets os₀ 0 (map (λ (x : Place). x.offset) (walk_from room f 32).frames)
  pub lengths : sets ls count (map (λ (x : Place). x.size) (walk_from (room - count) f at).frames)
      ≡ sets ls₀ 0 (map (λ (x : Place). x.size) (walk_from room f 32).frames)

pub begin : (f os ls : List ℕ) (room : ℕ) → 32 ≤ length f → room ≡ min (length os) (length ls) → Turn f os ls room os ls 32 0
begin f os ls room h e =
    let all : room - 0 ≡ room = omega arith in
    record {
      within = h;
      few = omega arith;
      for_offsets = omega arith;
      for_lengths = omega arith;
      same_offsets = refl;
      same_lengths = refl;
      counted = rw all (omega arith);
      ending = rw all;
      offsets = rw all;
      lengths = rw all;
    }

-- no header, and nothing is listed
pub refused : (f os ls : List ℕ) (room : ℕ) → headed f ≡ false → Lists (walked room f) (record { count = 0; ended = Err NoHeader }) os os ls ls
unfolding walked
refused f os ls room e = rw e (record { count = refl; ended = refl; offsets_are = refl; lengths_are = refl })

module _ {f os₀ ls₀ : List ℕ} {room : ℕ} {os ls : List ℕ} {at count : ℕ} (t : Turn f os₀ ls₀ room os ls at count) where
  pub turn : {n : ℕ} → step_at f at ≡ Ok (Some n) → count < room
      → Turn f os₀ ls₀ room (set os count (at + 12)) (set ls count n) (at + 12 + n) (count + 1)
  turn {n} e h =
      let one : room - count ≡ suc (room - suc count) = omega arith in
      let next : walk_from (room - count) f at ≡ first (at + 12) n (walk_from (room - suc count) f (at + 12 + n)) =
      rw one (walk_frame f at (room - suc count) e) in
      record {
        within = (fits f at t.within e).0;
        few = omega arith;
        for_offsets = t.for_offsets;
        for_lengths = t.for_lengths;
        same_offsets = length-set os count (at + 12) ∙ t.same_offsets;
        same_lengths = length-set ls count n ∙ t.same_lengths;
        counted = rw (add-one count) (omega (arith, rw next at t.counted));
        ending = rw (add-one count) (rw next at t.ending);
        offsets = rw (add-one count) (rw next at t.offsets);
        lengths = rw (add-one count) (rw next at t.lengths);
      }

  pub full : {n : ℕ} → step_at f at ≡ Ok (Some n) → room ≤ count → walk_from (room - count) f at ≡ ends (Err ListFull)
  full e h =
      let none : room - count ≡ 0 = omega arith in
      rw none (walk_full f at e)

  pub stop : (r : Ended) → headed f ≡ true → room ≡ min (length os₀) (length ls₀) → walk_from (room - count) f at ≡ ends r
      → Listed f (record { count = count; ended = r }) os₀ os ls₀ ls
  unfolding walked
  stop r h m e =
      let vs : List Place = (walk_from room f 32).frames in
      let all : count ≡ length vs = omega (arith, rw e at t.counted) in
      let os : List ℕ = map (λ (x : Place). x.offset) vs in
      let ls : List ℕ = map (λ (x : Place). x.size) vs in
      rw (h, ← m)
      (record {
        count = all;
        ended = rw e at t.ending;
        offsets_are = (rw e at t.offsets)
            ∙ from_first os₀ os (omega (arith, length-map vs (λ (x : Place). x.offset), t.few, t.for_offsets));
        lengths_are = (rw e at t.lengths)
            ∙ from_first ls₀ ls (omega (arith, length-map vs (λ (x : Place). x.size), t.few, t.for_lengths));
      })
