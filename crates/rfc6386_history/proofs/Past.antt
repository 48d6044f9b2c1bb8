-- What the past cannot touch: for one frame and any two parsers, by cases on what the frame says.
use Prim.Native.Nat.{ℕ}
use mathlib.Core.Path.{◌≡◌, refl, sym, ap, ◌∙◌}
use mathlib.Core.Bool.{Bool, true, false}
use mathlib.Core.Option.{none, some}
use mathlib.Core.List.{List, map}
use lib.IntN.{ℤ}
use Rattle.vp8_records.specs.declared.Mode.{Mode}
use Rattle.vp8_records.specs.declared.Parser.{Parser}
use Rattle.vp8_records.specs.declared.Parsed.{Parsed}
use Rattle.vp8_records.specs.declared.Header.{Header}
use Rattle.vp8_records.specs.Start.{fresh}
use Rattle.rfc6386.specs.Decoder.{pick}
use Rattle.rfc6386.specs.Runs.{or}
use Rattle.rfc6386.specs.Frame.{Opened, shut, opened, chunk, beyond, empty, read, Said, refused, follows, body, inside, decode}
use Rattle.rfc6386.specs.Call.{Asked, header_of, finish, call, after}
use Rattle.rfc6386_history.specs.Refusals.{key_of, opens}
use Rattle.rfc6386_history.specs.Kept.{kept}
use Rattle.vp8_records.specs.Shape.{Sized}
use Rattle.rfc6386_history.specs.History.{any_cutter, since, writes, last}
use Rattle.rfc6386_history.specs.Past.{Blind, Alike}
use Rattle.rfc6386_history.proofs.Refusals.{Opens, chunk_opens}
use Rattle.rfc6386_history.proofs.Step.{forgets_body}
use Rattle.rfc6386_history.proofs.History.{last_writer_from}

alike : (s : Said) (p q : Parser) → Alike (finish s p) (finish s q)
alike (refused o) p q = record { outcome = refl; header = λ part h. refl }
alike (follows k (beyond end n)) p q = record { outcome = refl; header = λ part h. refl }
alike (follows k empty) p q = record { outcome = refl; header = λ part h. refl }
alike (follows k (read c s none)) p q = record { outcome = refl; header = λ part h. refl }
alike (follows k (read c s (some ss))) p q = record { outcome = refl; header = λ part h. h k c s ss _ _ }

rest_alone : (s : Said) (p q : Parser) → (finish s p).header.coeff_prob ≡ (finish s q).header.coeff_prob
    → (finish s p).header.mv_prob ≡ (finish s q).header.mv_prob → (finish s p).header.mode_probs ≡ (finish s q).header.mode_probs
    → (finish s p).header ≡ (finish s q).header
unfolding header_of
rest_alone (refused o) p q a b c = refl
rest_alone (follows k (beyond end n)) p q a b c = refl
rest_alone (follows k empty) p q a b c = refl
rest_alone (follows k (read c s none)) p q a b d = refl
rest_alone (follows k (read c s (some ss))) p q a b d = λ i. header_of k c s ss (record { coeffs = a i; mv = b i; modes = d i })

-- whatever was kept, a frame's answer is the same but for those
pub alone : (md : Mode) (p q : Parser) (f : List ℕ) → Alike (call md p f) (call md q f)
unfolding call
alone md p q f = alike (decode md f) p q

-- so the outcome is the same, and every part of the header in which the probabilities have no say
pub alone_outcome : (md : Mode) (p q : Parser) (f : List ℕ) → (call md p f).outcome ≡ (call md q f).outcome
alone_outcome md p q f = (alone md p q f).outcome

pub alone_part : (md : Mode) (p q : Parser) (f : List ℕ) {A : Type 0} (part : Header → A) → Blind part → part (call md p f).header
    ≡ part (call md q f).header
alone_part md p q f = (alone md p q f).header

-- as the count of bools
pub alone_bools : (md : Mode) (p q : Parser) (f : List ℕ) → (call md p f).header.bools ≡ (call md q f).header.bools
unfolding header_of
alone_bools md p q f = alone_part md p q f (λ h. h.bools) (λ k c s ss r r'. refl)

-- those are all: where the three groups of probabilities are the same too, so is the header
pub alone_rest : (md : Mode) (p q : Parser) (f : List ℕ) → (call md p f).header.coeff_prob ≡ (call md q f).header.coeff_prob
    → (call md p f).header.mv_prob ≡ (call md q f).header.mv_prob
    → (call md p f).header.mode_probs ≡ (call md q f).header.mode_probs
    → (call md p f).header ≡ (call md q f).header
unfolding call
alone_rest md p q f = rest_alone (decode md f) p q

-- and for a key frame the whole header is the same
pub key_alone : (md : Mode) (p q : Parser) (f : List ℕ) → key_of f ≡ true → (call md p f).header ≡ (call md q f).header
unfolding call decode
key_alone md p q f h = go (chunk f) (chunk_opens f)
  where
    go : (x : Opened) → Opens x (key_of f) (opens f) → (finish (inside md x f) p).header ≡ (finish (inside md x f) q).header
    go (shut o) e = refl
    go (opened k) e = ap (λ (a : Parsed). a.header) (forgets_body p q k (body md k f) (e.0 ∙ h))

-- a kept number owes nothing to the others
pub number_alone : (p q : Parser) (xs : List Asked) (i : ℕ) → Sized p → Sized q → kept p i ≡ kept q i
    → kept (after p xs) i ≡ kept (after q xs) i
number_alone p q xs i s t h =
    last_writer_from p xs i s
    ∙ ap (λ (z : ℤ). or (last (map (λ f. writes f i) (since xs))) z) (same (any_cutter xs))
    ∙ sym (last_writer_from q xs i t)
  where
    same : (b : Bool) → kept (pick b fresh p) i ≡ kept (pick b fresh q) i
    same true = refl
    same false = h
