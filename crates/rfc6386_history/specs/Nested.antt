-- The coefficient probabilities over calls in the nested layout (`vp8_records/specs/Nested`), as a call's definition had them before they
-- were one run: a key frame starts from the default table, what is coded is written over the records' run, which is laid out again, and
-- the parser keeps it if refresh_entropy_probs is set (docs/RULES.md, what is kept, and the table of refusals).
use Rattle.std.specs.Prelude.{◌≡◌, List, [], ◌∷◌, ℕ, replicate}
use Rattle.std.proofs.Math.Option.{Option, none, some}
use Rattle.vp8_probs.specs.Tables.{coeff_default}
use Rattle.vp8_records.specs.declared.Mode.{Mode}
use Rattle.vp8_records.specs.declared.Parsed.{Parsed}
use Rattle.vp8_records.specs.Layout.{Entry, coeff_at}
use Rattle.vp8_records.specs.Nested.{Nested, laid_nested, flat_nested, nest, nested_at}
use Rattle.rfc6386.specs.Decoder.{pick}
use Rattle.rfc6386.specs.Runs.{over}
use Rattle.rfc6386.specs.Coded.{Coded}
use Rattle.rfc6386.specs.Frame.{Chunk, beyond, empty, read, Said, refused, follows, decode}
use Rattle.rfc6386.specs.Call.{Asked}

-- of an answer, the header's and the parser's
pub record Both : Type 0 where
  pub header : Nested
  pub parser : Nested

abbrev pub both : Nested → Nested → Both
both h p = record { header = h; parser = p }

-- those of an answer, laid out
abbrev pub nest_both : Parsed → Both
nest_both a = both (nest a.header.coeff_prob) (nest a.parser.coeff_prob)

-- the same entries, in header and parser
abbrev pub SameEntries : Parsed → Both → Type 0
SameEntries a b =
    (i j k l : ℕ) → Entry i j k l
    → (coeff_at a.header.coeff_prob i j k l ≡ nested_at b.header i j k l)
    × (coeff_at a.parser.coeff_prob i j k l ≡ nested_at b.parser i j k l)

-- two lists of one length, the relation between each two
abbrev pub Each₂ : {A B : Type 0} → (A → B → Type 0) → List A → List B → Type 0
Each₂ R [] [] = Unit {0}
Each₂ R [] (y ∷ ys) = ⊥
Each₂ R (x ∷ xs) [] = ⊥
Each₂ R (x ∷ xs) (y ∷ ys) = R x y × Each₂ R xs ys

abbrev pub no_nested : Nested
no_nested = laid_nested (replicate 1056 0)

abbrev pub nested_over : List (Option ℕ) → Nested → Nested
nested_over us r = laid_nested (over us (flat_nested r))

abbrev pub nested_base : Chunk → Nested → Nested
nested_base k r = pick k.key (laid_nested coeff_default) r

abbrev pub nested_apply : Coded → Nested → Nested
nested_apply c r = pick c.refresh.entropy (nested_over c.coeffs r) r

abbrev pub nested_sized : Option (List ℕ) → Coded → Nested → Both
nested_sized none c r = both no_nested (nested_apply c r)
nested_sized (some ss) c r = both (nested_over c.coeffs r) (nested_apply c r)

abbrev pub nested_finish : Said → Nested → Both
nested_finish (refused o) r = both no_nested r
nested_finish (follows k (beyond end length)) r = both no_nested (nested_base k r)
nested_finish (follows k empty) r = both no_nested (nested_base k r)
nested_finish (follows k (read c s ss)) r = nested_sized ss c (nested_base k r)

-- one call
abbrev pub nested_call : Mode → Nested → List ℕ → Both
nested_call md r f = nested_finish (decode md f) r

-- any calls: what each leaves
unfoldable pub nested_calls : Nested → List Asked → List Both
nested_calls r [] = []
nested_calls r (x ∷ xs) =
    let a = nested_call x.mode r x.frame in
    a ∷ nested_calls a.parser xs
