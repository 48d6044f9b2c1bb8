-- A literal read in parts, by the contracts of the functions that read them: the parser's `read_literal`, of any engine, and the bare
-- decoder's `read_uint`; and what `read_uint` answers of the whole.
use Rattle.std.specs.Prelude.{ℕ, List, [], ◌∷◌, Option, Some, None, Result, Ok, Err}
use Rattle.rfc6386.specs.Split.{together}
use Rattle.bool_decoder.specs.Engine.{Engine}
use Rattle.bool_decoder.specs.Engine as By
use Rattle.bool_decoder.specs.Model.{past_of, Lit}
use Rattle.bool_decoder.specs.Refusal.{number_of}
use Rattle.bool_decoder.specs.Answer.{UintMeets}
use Rattle.bool_decoder.specs.declared.BoolDecoder.{BoolDecoder}
use Rattle.bool_decoder.specs.declared.Read.{Read}
use Rattle.bool_decoder.specs.declared.ReadRefusal.{ReadRefusal}

-- literals of these widths, each from the decoder that the one before it has left: their values, and the decoder after the last
pub data Parts (E : Engine) (area : List ℕ) : List ℕ → E.Dec → List ℕ → E.Dec → Type 0 where
  none : {d : E.Dec} → Parts E area [] d [] d
  next : {w : ℕ} {ws : List ℕ} {d d₁ d₂ : E.Dec} {v : ℕ} {vs : List ℕ}
      → By.Lit E area w d v d₁ → Parts E area ws d₁ vs d₂ → Parts E area (w ∷ ws) d (v ∷ vs) d₂

-- the same by `read_literal` of a decoder
pub data LiteralParts : List ℕ → BoolDecoder → List ℕ → BoolDecoder → Type 0 where
  none : {d : BoolDecoder} → LiteralParts [] d [] d
  next : {w : ℕ} {ws : List ℕ} {d d₁ d₂ : BoolDecoder} {v : ℕ} {vs : List ℕ}
      → Lit w d v d₁ → LiteralParts ws d₁ vs d₂ → LiteralParts (w ∷ ws) d (v ∷ vs) d₂

-- the same by `read_uint`, up to the first that is refused: the values read, that refusal if there is one, the decoder that is left
pub data UintParts : List ℕ → BoolDecoder → List ℕ → Option ReadRefusal → BoolDecoder → Type 0 where
  ended : {d : BoolDecoder} → UintParts [] d [] None d
  goes : {w : ℕ} {ws : List ℕ} {d : BoolDecoder} {r : Read ℕ} {d₁ : BoolDecoder} {vs : List ℕ} {n : Option ReadRefusal} {e : BoolDecoder}
      → UintMeets d w (Ok r) d₁ → UintParts ws d₁ vs n e → UintParts (w ∷ ws) d (r.value ∷ vs) n e
  stops : {w : ℕ} {ws : List ℕ} {d : BoolDecoder} {x : ReadRefusal} {e : BoolDecoder} → UintMeets d w (Err x) e
      → UintParts (w ∷ ws) d [] (Some x) e

-- the number by which they are refused, 0 for none
abbrev pub parts_number : Option ReadRefusal → ℕ
parts_number None = 0
parts_number (Some x) = number_of x

-- what the whole is then answered from d, and the decoder after it
abbrev pub whole_answer : List ℕ → List ℕ → Option ReadRefusal → BoolDecoder → BoolDecoder → Result (Read ℕ) ReadRefusal × BoolDecoder
whole_answer ws vs None d e = (Ok (record { value = together ws vs; past = past_of e }), e)
whole_answer ws vs (Some x) d e = (Err x, d)
