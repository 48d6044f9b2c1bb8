-- A script of the bare decoder: pairs of bytes, a kind and a number. What each read asks for, and where it leaves the decoder.
use Rattle.std.specs.Prelude.{ℕ, ◌≡◌, Bool, true, false, cond, List, [], ◌∷◌, eqb, ltb}
use Rattle.std.specs.Borrow.{Bor}
use Rattle.rfc6386.specs.Decoder.{State, pick}
use Rattle.bool_slow.specs.Asks.{ask_bool, ask_plain, ask_signed, answered}
use Rattle.bool_slow.specs.Asks as Asks
use Rattle.bool_script.specs.declared.Ask.{Ask}
use Rattle.bool_script.specs.declared.Ask.TheVariants as A

-- kind 0, 1 and 2; any other kind counts as 2
unfoldable pub ask_of : ℕ → ℕ → Asks.Ask
ask_of kind n = pick (eqb kind 0) (ask_bool n) (pick (eqb kind 1) (ask_plain n) (ask_signed n))

abbrev pub asked : Ask → Asks.Ask
asked (A.Bool p) = ask_bool p
asked (A.Plain w) = ask_plain w
asked (A.Signed w) = ask_signed w

-- d' is left where d has answered
pub record Leaves {D : Type 0} (area_of : D → Bor (List ℕ)) (state_of : D → State) (a : Asks.Ask) (d d' : D) : Type 0 where
  pub state : state_of d' ≡ (answered (area_of d).now a (state_of d)).then
  pub over : area_of d' ≡ area_of d

-- each kind is at most 2; a kind is every second byte
unfoldable pub known : List ℕ → Bool
known [] = true
known (k ∷ []) = cond (ltb 2 k) false true
known (k ∷ (n ∷ rest)) = cond (ltb 2 k) false (known rest)
