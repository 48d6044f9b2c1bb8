-- None of the five wrong parsers meets the contract of `parse`: the worked cases 6, 7 and 11, computed, tell each apart.
use Prim.Native.Nat.{ℕ}
use native.Mathlib.Omega.{arith}
use native.Mathlib.Decide.{ℕ_discrete}
use mathlib.Core.Path.{◌≡◌, refl, sym, ap, ◌∙◌}
use mathlib.Core.Bool.{Bool, true, false}
use mathlib.Core.List.{List, [], ◌∷◌, ◌++◌, map}
use lib.ListN.{get_or, replicate}
use Rattle.vp8_probs.specs.Tables.{coeff_update, mv_update}
use Rattle.std.specs.Prelude.{Ok}
use Rattle.vp8_records.specs.declared.Header.{Header}
use Rattle.vp8_records.specs.declared.Mode.{Mode}
use Rattle.vp8_records.specs.declared.Mode.TheVariants.{Rust, Standard}
use Rattle.vp8_records.specs.Outcome.{Outcome}
use Rattle.vp8_records.specs.declared.Parsed.{Parsed}
use Rattle.vp8_records.specs.declared.Parser.{Parser}
use Rattle.vp8_records.specs.Start.{fresh}
use Rattle.rfc6386.specs.Decoder.{number, start, double, normal, chosen, read_bool, whole, count_of, position}
use Rattle.rfc6386.specs.Reads.{◌>>=◌, run, bool, flag, when, lit_from, lit, sint, make, times, each, maybe, or_else}
use Rattle.rfc6386.specs.Coded.{anew, features, segments, deltas, quant, refresh, coefficients, motion, modes, inter, header}
use Rattle.rfc6386.specs.Frame.{key_chunk, chunk, snapshot, coded_sizes, sum, sizes, headed, body, decode}
use Rattle.rfc6386.specs.Call.{segmented, apply, header_of, call}
use Rattle.rfc6386_cases.specs.Cases.{key176x144}
use Rattle.rfc6386_cases.specs.Wrong.{Function, Meets, RefusesAll, FixedHeader, Untouched, Repeats, Invents, Constant}

abbrev six : List ℕ
six = key176x144 0x30 ++ (0x00 ∷ 0x00 ∷ [])

abbrev seven : List ℕ
seven = 0x31 ∷ 0x00 ∷ 0x00 ∷ 0x00 ∷ 0x00 ∷ []

abbrev eleven : List ℕ
eleven = key176x144 0x70 ++ (0x30 ∷ 0x80 ∷ 0x00 ∷ 0x00 ∷ [])

-- what tells them apart: accepted, the number of bools, a key frame
record Seen : Type 0 where
  outcome : Outcome
  bools : ℕ
  key : Bool

abbrev seen : Parsed → Seen
seen r = record { outcome = r.outcome; bools = r.header.bools; key = r.header.key_frame }

abbrev modes_of : List Mode
modes_of = Rust ∷ Standard ∷ []

-- each case in both modes at once, which takes less than one after the other; 7 over any parser, whose state is not looked at
computed : (p : Parser)
    → (map (λ md. seen (call md fresh six)) modes_of ≡ replicate 2 (record { outcome = Ok tt; bools = 1086; key = true }))
    × (map (λ md. seen (call md p seven)) modes_of ≡ replicate 2 (record { outcome = Ok tt; bools = 1157; key = false }))
    × (map (λ md. (call md fresh eleven).parser.segmentation.segmentation_enabled) modes_of ≡ replicate 2 true)
unfolding coeff_update mv_update number start double normal chosen read_bool whole count_of position ◌>>=◌ run bool flag when lit_from lit
    sint make times each maybe or_else anew features segments deltas quant refresh coefficients motion modes inter header key_chunk chunk
    snapshot coded_sizes sum sizes headed body decode segmented apply header_of call
computed p = (refl, refl, refl)

-- what holds of both holds of each
each_mode : {A : Type 0} (g : Mode → A) (x : A) → map g modes_of ≡ replicate 2 x → (md : Mode) → g md ≡ x
each_mode g x e Rust = ap (λ (l : List _). get_or l 0 x) e
each_mode g x e Standard = ap (λ (l : List _). get_or l 1 x) e

six_is : (md : Mode) → seen (call md fresh six) ≡ record { outcome = Ok tt; bools = 1086; key = true }
six_is = each_mode (λ md. seen (call md fresh six)) _ (computed fresh).0

seven_is : (md : Mode) (p : Parser) → seen (call md p seven) ≡ record { outcome = Ok tt; bools = 1157; key = false }
seven_is md p = each_mode (λ m. seen (call m p seven)) _ (computed p).1 md

eleven_is : (md : Mode) → (call md fresh eleven).parser.segmentation.segmentation_enabled ≡ true
eleven_is = each_mode (λ md. (call md fresh eleven).parser.segmentation.segmentation_enabled) true (computed fresh).2

fresh_is : fresh.segmentation.segmentation_enabled ≡ false
unfolding fresh
fresh_is = refl

apart : (b : Bool) → b ≡ true → b ≡ false → ⊥
apart b p q = grind arith

module _ (md : Mode) (g : Function) (meets : Meets md g) where
  six_outcome : (g fresh six).outcome ≡ Ok tt
  six_outcome = ap (λ (r : Parsed). r.outcome) (meets fresh six) ∙ ap (λ (t : Seen). t.outcome) (six_is md)

  seven_outcome : (g fresh seven).outcome ≡ Ok tt
  seven_outcome = ap (λ (r : Parsed). r.outcome) (meets fresh seven) ∙ ap (λ (t : Seen). t.outcome) (seven_is md fresh)

  six_key : (g fresh six).header.key_frame ≡ true
  six_key = ap (λ (r : Parsed). r.header.key_frame) (meets fresh six) ∙ ap (λ (t : Seen). t.key) (six_is md)

  seven_key : (p : Parser) → (g p seven).header.key_frame ≡ false
  seven_key p = ap (λ (r : Parsed). r.header.key_frame) (meets p seven) ∙ ap (λ (t : Seen). t.key) (seven_is md p)

  pub not_refuses_all : RefusesAll g → ⊥
  not_refuses_all h = h fresh six six_outcome

  pub not_fixed_header : (x : Header) → FixedHeader x g → ⊥
  not_fixed_header x h =
      apart x.key_frame (ap (λ (y : Header). y.key_frame) (sym (h fresh six six_outcome)) ∙ six_key)
      (ap (λ (y : Header). y.key_frame) (sym (h fresh seven seven_outcome)) ∙ seven_key fresh)

  pub not_untouched : Untouched g → ⊥
  not_untouched h =
      apart (g fresh eleven).parser.segmentation.segmentation_enabled
      (ap (λ (r : Parsed). r.parser.segmentation.segmentation_enabled) (meets fresh eleven) ∙ eleven_is md)
      (ap (λ (p : Parser). p.segmentation.segmentation_enabled) (h fresh eleven) ∙ fresh_is)

  pub not_repeats : Repeats g → ⊥
  not_repeats h =
      apart (g fresh six).header.key_frame six_key
      (ap (λ (y : Header). y.key_frame) (sym (h six seven)) ∙ seven_key (g fresh six).parser)

  pub not_invents : Invents md g → ⊥
  not_invents h = h.other (ap (λ (r : Parsed). r.header.bools) (meets h.parser h.frame))

-- a constant count is invented: if it is that of case 6, it is not that of case 7
pub constant_invents : (md : Mode) (g : Function) (n : ℕ) → Constant n g → Invents md g
constant_invents md g n h = go (ℕ_discrete n 1086)
  where
    go : Dec (n ≡ 1086) → Invents md g
    go (yes e) = record {
      parser = fresh;
      frame = seven;
      accepted = ap (λ (t : Seen). t.outcome) (seven_is md fresh);
      other = λ x. omega (arith, h fresh seven, x, ap (λ (t : Seen). t.bools) (seven_is md fresh), e);
    }
    go (no e) = record {
      parser = fresh;
      frame = six;
      accepted = ap (λ (t : Seen). t.outcome) (six_is md);
      other = λ x. e (sym (h fresh six) ∙ x ∙ ap (λ (t : Seen). t.bools) (six_is md));
    }
