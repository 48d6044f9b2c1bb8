-- What owning an array of structs tells: its length, and what holds of each element. By induction on the array.
use Rattle.std.proofs.Common.{◌≡◌, ℕ, List, [], ◌∷◌, map, length, sym, ◌∙◌}
use lib.ListN.{length-map}
use mir.Val.{Val}
use base.Fml.{Fml}
use denote.Shadow.{shadow}
use denote.Array.{each}
use Rattle.vp8_records.specs.Shape.{Every}

-- what owning it tells stands at the list of the structs' values
pub length_mapped : (X Y : Type 0) (f : X → Y) (l : List X) (n : ℕ) → length (map f l) ≡ n → length l ≡ n
length_mapped X Y f l n p = sym (length-map l f) ∙ p

pub every_of : {B : Type 0} (f : B → List Val → Fml) (P : B → Type 0)
    → ((x : B) (u : Val) → shadow (f x (u ∷ [])) → P x) → (xs : List B) (us : List Val) → shadow (each B f xs us) → Every P xs
every_of f P h [] us o = tt
every_of f P h (x ∷ xs) [] o = absurd o
every_of f P h (x ∷ xs) (u ∷ us) o = (h x u o.0, every_of f P h xs us o.1)
