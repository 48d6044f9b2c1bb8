-- The loop over the listed frames: the calls that are left, from the state so far, end where all of them end. A turn takes the first.
use Rattle.std.proofs.Common.{◌≡◌, ◌⊎◌, inl, inr, ℕ, List, [], ◌∷◌, take, drop, refl}
use Rattle.vp8_records.specs.declared.Mode.{Mode}
use Rattle.vp8_records.specs.declared.Parser.{Parser}
use Rattle.vp8_records.specs.declared.Parsed.{Parsed}
use Rattle.rfc6386.specs.Call.{call, after}
use Rattle.ivf.specs.Walk.{bytes_of}
use Rattle.ivf.specs.Listed.{places_of}
use Rattle.vp8_recording.specs.Plays.{all_in}

nothing : (os : List ℕ) → places_of os [] ≡ []
unfolding places_of
nothing [] = refl
nothing (o ∷ os) = refl

-- `os` and `ls` are what is left of both lists
pub record Turn (md : Mode) (f all_os all_ls : List ℕ) (p₀ p : Parser) (os ls : List ℕ) : Type 0 where
  pub state : after p (all_in md (bytes_of f (places_of os ls))) ≡ after p₀ (all_in md (bytes_of f (places_of all_os all_ls)))

module _ {md : Mode} {f all_os all_ls : List ℕ} {p₀ p : Parser} {os ls : List ℕ} (t : Turn md f all_os all_ls p₀ p os ls) where
  pub turn : {o l : ℕ} {os' ls' : List ℕ} {r : Parsed} → os ≡ o ∷ os' → ls ≡ l ∷ ls' → r ≡ call md p (take l (drop o f))
      → Turn md f all_os all_ls p₀ r.parser os' ls'
  unfolding after bytes_of places_of
  turn a b e = record { state = rw e (rw (a, b) at t.state) }

  pub end : (os ≡ []) ⊎ (ls ≡ []) → p ≡ after p₀ (all_in md (bytes_of f (places_of all_os all_ls)))
  unfolding after bytes_of places_of
  end (inl a) = rw a at t.state
  end (inr b) = rw (b, nothing os) at t.state
