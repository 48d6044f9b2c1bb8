-- The nested layout and the run hold the same coefficient probabilities after every call. Laid out, what is written over a run is what is
-- written over the nested records' run, since that is the same run (`flat_nest`); then by cases on the outcome, and by induction on calls.
use Prim.Native.Nat.{ℕ, ◌+◌}
use mathlib.Core.Path.{◌≡◌, refl, sym, ap, ap₂, ◌∙◌, subst}
use mathlib.Core.Bool.{Bool, true, false}
use mathlib.Core.Option.{Option, none, some}
use mathlib.Core.List.{List, [], ◌∷◌, map}
use lib.IntN.{pos}
use Rattle.vp8_probs.specs.Tables.{coeff_default}
use Rattle.vp8_records.specs.declared.CoeffProbs.{CoeffProbs}
use Rattle.vp8_records.specs.declared.Parser.{Parser}
use Rattle.vp8_records.specs.Layout.{Entry, coeff_index}
use Rattle.vp8_records.specs.Nested.{Nested, laid_nested, nest, nested_at}
use Rattle.vp8_records.specs.Shape.{SizedCoeffs, Sized}
use Rattle.vp8_records.specs.Start.{fresh_coeffs, no_coeffs, fresh, blank}
use Rattle.vp8_records.proofs.Index.{ruled, flat_nest, coeff_index_lem}
use Rattle.vp8_records.specs.contracts.Parser as Held
use Rattle.vp8_records.proofs.Typed.{typed_sized}
use mir.Val.{Val}
use denote.Laws.{Is}
use Rattle.rfc6386.specs.Decoder.{pick}
use Rattle.rfc6386.specs.Runs.{over}
use Rattle.rfc6386.specs.Coded.{Coded}
use Rattle.rfc6386.specs.Frame.{beyond, empty, read, Said, refused, follows, decode}
use Rattle.rfc6386.specs.Call.{Asked, coeffs_over, probs_of, probs_over, apply, cleared, header_of, base, finish, call, called, calls}
use Rattle.rfc6386.proofs.Runs.{length_over}
use Rattle.rfc6386_history.specs.Kept.{kept}
use Rattle.rfc6386_history.specs.Nested.{Both, both, nest_both, SameEntries, Each₂, no_nested, nested_over, nested_apply, nested_finish, nested_call, nested_calls}
use Rattle.rfc6386_history.proofs.Writes.{sized_fresh}
use Rattle.rfc6386_history.proofs.Step.{sized_call}
use Rattle.rfc6386_history.proofs.Numbers.{kept_coeff}

module _ (us : List (Option ℕ)) (c : CoeffProbs) (s : SizedCoeffs c) where
  over_nest : nest (coeffs_over us c) ≡ nested_over us (nest c)
  unfolding coeffs_over
  over_nest = ap (λ (xs : List ℕ). laid_nested (over us xs)) (sym (flat_nest c s))

  over_sized : SizedCoeffs (coeffs_over us c)
  unfolding coeffs_over
  over_sized = length_over us c.v ∙ s

-- what a frame starts from
module _ (p : Parser) (s : SizedCoeffs p.coeff_prob) where
  base_nest : (key : Bool) → nest (pick key fresh p).coeff_prob ≡ pick key (laid_nested coeff_default) (nest p.coeff_prob)
  unfolding fresh fresh_coeffs
  base_nest true = refl
  base_nest false = refl

  base_sized : (key : Bool) → SizedCoeffs (pick key fresh p).coeff_prob
  unfolding fresh fresh_coeffs coeff_default
  base_sized true = refl
  base_sized false = s

  apply_nest : (c : Coded) → nest (apply c p).coeff_prob ≡ nested_apply c (nest p.coeff_prob)
  unfolding apply probs_over
  apply_nest c = go c.refresh.entropy
    where
      go : (b : Bool) → nest (pick b (probs_over c (probs_of p)) (probs_of p)).coeffs
          ≡ pick b (nested_over c.coeffs (nest p.coeff_prob)) (nest p.coeff_prob)
      go true = over_nest c.coeffs p.coeff_prob s
      go false = refl

finish_nest : (x : Said) (p : Parser) → SizedCoeffs p.coeff_prob → nest_both (finish x p) ≡ nested_finish x (nest p.coeff_prob)
unfolding blank no_coeffs cleared header_of probs_over
finish_nest (refused o) p s = refl
finish_nest (follows k (beyond end n)) p s = ap (λ (r : Nested). both no_nested r) (base_nest p s k.key)
finish_nest (follows k empty) p s = ap (λ (r : Nested). both no_nested r) (base_nest (cleared p) s k.key)
finish_nest (follows k (read c z none)) p s =
    ap (λ (r : Nested). both no_nested r)
    (apply_nest (base k p) (base_sized p s k.key) c ∙ ap (λ (r : Nested). nested_apply c r) (base_nest p s k.key))
finish_nest (follows k (read c z (some ss))) p s =
    let sized = base_sized p s k.key in
    let same = base_nest p s k.key in
    ap₂ both (over_nest c.coeffs (base k p).coeff_prob sized ∙ ap (λ (r : Nested). nested_over c.coeffs r) same)
    (apply_nest (base k p) sized c ∙ ap (λ (r : Nested). nested_apply c r) same)

header_sized : (x : Said) (p : Parser) → SizedCoeffs p.coeff_prob → SizedCoeffs (finish x p).header.coeff_prob
unfolding blank no_coeffs header_of probs_over
header_sized (refused o) p s = refl
header_sized (follows k (beyond end n)) p s = refl
header_sized (follows k empty) p s = refl
header_sized (follows k (read c z none)) p s = refl
header_sized (follows k (read c z (some ss))) p s = over_sized c.coeffs (base k p).coeff_prob (base_sized p s k.key)

-- one call: laid out, both runs of its answer are the nested records, so each entry is the same
module _ (p : Parser) (s : Sized p) (x : Asked) where
  pub call_nest : nest_both (called p x) ≡ nested_call x.mode (nest p.coeff_prob) x.frame
  unfolding call
  call_nest = finish_nest (decode x.mode x.frame) p s.coeffs

  shown_sized : SizedCoeffs (called p x).header.coeff_prob
  unfolding call
  shown_sized = header_sized (decode x.mode x.frame) p s.coeffs

  pub call_entries : SameEntries (called p x) (nested_call x.mode (nest p.coeff_prob) x.frame)
  call_entries i j k l e = (
    coeff_index_lem (called p x).header.coeff_prob shown_sized i j k l e ∙ ap (λ (b : Both). nested_at b.header i j k l) call_nest,
    coeff_index_lem (called p x).parser.coeff_prob (sized_call p x s).coeffs i j k l e
        ∙ ap (λ (b : Both). nested_at b.parser i j k l) call_nest,
  )

-- any calls
pub calls_nest : (p : Parser) → Sized p → (xs : List Asked) → map nest_both (calls p xs) ≡ nested_calls (nest p.coeff_prob) xs
unfolding calls nested_calls
calls_nest p s [] = refl
calls_nest p s (x ∷ xs) =
    let one = call_nest p s x in
    ap₂ {C = List Both} (λ b bs. b ∷ bs) one
    (calls_nest (called p x).parser (sized_call p x s) xs ∙ ap (λ (b : Both). nested_calls b.parser xs) one)

pub calls_entries : (p : Parser) → Sized p → (xs : List Asked) → Each₂ SameEntries (calls p xs) (nested_calls (nest p.coeff_prob) xs)
unfolding calls nested_calls
calls_entries p s [] = tt
calls_entries p s (x ∷ xs) = (
  call_entries p s x,
  subst (λ (r : Nested). Each₂ SameEntries (calls (called p x).parser xs) (nested_calls r xs))
      (ap (λ (b : Both). b.parser) (call_nest p s x)) (calls_entries (called p x).parser (sized_call p x s) xs),
)

-- of a fresh parser, whose nested records are the default table laid out
pub fresh_entries : (xs : List Asked) → Each₂ SameEntries (calls fresh xs) (nested_calls (laid_nested coeff_default) xs)
unfolding fresh fresh_coeffs
fresh_entries xs = calls_entries fresh sized_fresh xs

-- a record that code can hold is of the right shape
pub held_entries : (p : Parser) (vs : List Val) → Is Held.the_row p vs → (xs : List Asked)
    → Each₂ SameEntries (calls p xs) (nested_calls (nest p.coeff_prob) xs)
held_entries p vs held = calls_entries p (typed_sized p vs held)

-- so the kept number that the rules give to a nested entry is that entry
pub kept_entry : (p : Parser) → Sized p → (i j k l : ℕ) → Entry i j k l
    → kept p (25 + coeff_index i j k l) ≡ pos (nested_at (nest p.coeff_prob) i j k l)
kept_entry p s i j k l e =
    kept_coeff p s (coeff_index i j k l) (ruled i j k l e).within ∙ ap pos (coeff_index_lem p.coeff_prob s.coeffs i j k l e)
