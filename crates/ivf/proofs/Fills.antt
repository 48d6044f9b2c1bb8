-- What the contract of `walk` is worth to its callers: it admits one answer, the entries that are counted are there, and they name the
-- frames of the walk.
use Prim.Native.Nat.{ℕ, ◌≤◌}
use native.Mathlib.Omega.{arith}
use mathlib.Core.Path.{◌≡◌, refl, sym, ap, ap₂, ◌∙◌}
use mathlib.Core.List.{List, [], ◌∷◌, map}
use lib.ListN.{length, take, drop, length-append, length-map}
use lib.Seq.{take_at}
use Rattle.ivf.specs.declared.Walked.{Walked}
use Rattle.ivf.specs.Walk.{Place, Walk}
use Rattle.ivf.specs.Listed.{over, places_of, Lists}

-- two answers over the same lists are one
pub lists_only : {w : Walk} {r r' : Walked} {os os' os'' ls ls' ls'' : List ℕ} → Lists w r os os' ls ls' → Lists w r' os os'' ls ls''
    → (r ≡ r') × (os' ≡ os'') × (ls' ≡ ls'')
lists_only a b = (
  (λ i. record { count = (a.count ∙ sym b.count) i; ended = (a.ended ∙ sym b.ended) i }),
  a.offsets_are ∙ sym b.offsets_are,
  a.lengths_are ∙ sym b.lengths_are,
)

both : (xs : List Place) → places_of (map (λ (x : Place). x.offset) xs) (map (λ (x : Place). x.size) xs) ≡ xs
unfolding places_of
both [] = refl
both (x ∷ xs) = ap (λ (l : List Place). x ∷ l) (both xs)

front : (xs old : List ℕ) → length xs ≤ length (over xs old)
front xs old = omega (arith, length-append xs (drop (length xs) old))

module _ {w : Walk} {r : Walked} {os os' ls ls' : List ℕ} (t : Lists w r os os' ls ls') where
  -- the lists that were filled name the places
  pub named : places_of (take r.count os') (take r.count ls') ≡ w.frames
  named =
      let xs : List ℕ = map (λ (x : Place). x.offset) w.frames in
      let ys : List ℕ = map (λ (x : Place). x.size) w.frames in
      ap₂ places_of
      (ap (take r.count) t.offsets_are
      ∙ take_at xs (drop (length xs) os) r.count (length-map w.frames (λ (x : Place). x.offset) ∙ sym t.count))
      (ap (take r.count) t.lengths_are
      ∙ take_at ys (drop (length ys) ls) r.count (length-map w.frames (λ (x : Place). x.size) ∙ sym t.count))
      ∙ both w.frames

  -- the entries that are counted are there
  pub listed_fits : (r.count ≤ length os') × (r.count ≤ length ls')
  listed_fits =
      let xs : List ℕ = map (λ (x : Place). x.offset) w.frames in
      let ys : List ℕ = map (λ (x : Place). x.size) w.frames in (
        omega (arith, t.count, ap length t.offsets_are, front xs os, length-map w.frames (λ (x : Place). x.offset)),
        omega (arith, t.count, ap length t.lengths_are, front ys ls, length-map w.frames (λ (x : Place). x.size)),
      )
