-- A refusal in words: its number, and what 2 and 3 carry. And a look, which may be one.
use Rattle.std.specs.Prelude.{ℕ, cond, List, [], ◌++◌, eqb, get_or, Result, Ok, Err}
use Rattle.vp8_records.specs.declared.Look.{Look}
use Rattle.vp8_records.specs.declared.PeekRefusal.{PeekRefusal}
use Rattle.vp8_records.specs.Outcome.{Outcome, number_of, carried_by, refusal_of}
use Rattle.text.specs.Digits.{decimal_of}
use Rattle.text.specs.Template.{filled}
use Rattle.vp8_flat.specs.Numbers.{look_of}

-- what refusal n carries, each number after its word
abbrev pub carried_text : List ℕ → List ℕ → List ℕ → ℕ → List ℕ → List ℕ
carried_text code end length n cs =
    cond (eqb n 2) (code ++ decimal_of (get_or cs 0 0))
    (cond (eqb n 3) ((end ++ decimal_of (get_or cs 0 0)) ++ (length ++ decimal_of (get_or cs 1 0))) [])

unfoldable pub refusal_text : List ℕ → List ℕ → List ℕ → List ℕ → Outcome → List ℕ
refusal_text word code end length o = (word ++ decimal_of (number_of o)) ++ carried_text code end length (number_of o) (carried_by o)

-- what a look saw, by a template; or its refusal, which carries a code at most
unfoldable pub look_text : List ℕ → List ℕ → List ℕ → Result Look PeekRefusal → List ℕ
look_text template word code (Ok l) = filled template (look_of l)
look_text template word code (Err e) = refusal_text word code [] [] (Err (refusal_of e))
