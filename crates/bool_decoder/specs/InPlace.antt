-- The tree of a loop that reads each element of a list anew, in its place. A device of proofs: the definition's own trees know no old
-- values.
use Rattle.std.specs.Prelude.{ℕ, suc, List, [], ◌∷◌}
use Rattle.rfc6386.specs.Reads.{Rd, ret, ◌>>=◌}

-- by the read f of the element's place, counted from i, and its old value
unfoldable pub each_at : {A : Type 0} → (ℕ → A → Rd A) → ℕ → List A → Rd (List A)
each_at f i [] = ret []
each_at f i (x ∷ xs) = f i x >>= (λ y. each_at f (suc i) xs >>= (λ ys. ret (y ∷ ys)))
