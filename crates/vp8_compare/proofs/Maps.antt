-- What a difference's place becomes: the library's `map` of an option, as a function of it.
use mathlib.Core.Path.{◌≡◌, ap}
use Rattle.std.proofs.Common.{Option, None, Some}
use Rattle.std.specs.Option.{option_map, MatchOption, IsSomeAnd}

named : {A B : Type 0} (f : A → B) (x : A) (r : Option B) → IsSomeAnd r (λ y. y ≡ f x) → r ≡ Some (f x)
named f x None e = absurd e
named f x (Some y) e = ap Some e

pub mapped : {A B : Type 0} (f : A → B) (o : Option A) (r : Option B) → MatchOption o (r ≡ None) (λ x. IsSomeAnd r (λ y. y ≡ f x))
    → r ≡ option_map f o
mapped f None r e = e
mapped f (Some x) r e = named f x r e
