-- The first difference between an answer and a stored one, in the order of a list's record (tests/fixed/README.md): the refusal, what it
-- carries, an accepted frame's numbers and probabilities, the kept numbers.
use Rattle.std.specs.Prelude.{ℕ, List, ◌++◌, Option, None, Some, eqb, get_or}
use Rattle.std.specs.Option.{option_map, option_or}
use Rattle.vp8_records.specs.declared.Header.{Header}
use Rattle.vp8_records.specs.declared.Parsed.{Parsed}
use Rattle.vp8_records.specs.Layout.{flat_coeffs, flat_mv}
use Rattle.rfc6386.specs.Decoder.{pick}
use Rattle.vp8_flat.specs.declared.header.Carried.{Carried}
use Rattle.vp8_flat.specs.Bytes.{flat_modes, kept_bytes}
use Rattle.vp8_flat.specs.Numbers.{carried_of, front_numbers, flags_of, tail_of}
use Rattle.vp8_compare.specs.Apart.{apart}
use Rattle.vp8_compare.specs.declared.Stored.{Stored}
use Rattle.vp8_compare.specs.declared.Difference.{Difference}
use Rattle.vp8_compare.specs.declared.Difference.TheVariants.{Refusal, Carried as Carries, Number, Probability, Kept}

-- a header's fifty-one numbers, in the order of a list
abbrev pub back_numbers : Header → List ℕ
back_numbers h = flags_of h ++ tail_of h

abbrev pub header_numbers : Header → List ℕ
header_numbers h = front_numbers h ++ back_numbers h

-- its 1,101 probabilities
abbrev pub prob_bytes : Header → List ℕ
prob_bytes h = flat_coeffs h.coeff_prob ++ (flat_mv h.mv_prob ++ flat_modes h.mode_probs)

unfoldable pub header_found : Header → Stored → Option Difference
header_found h s =
    option_or (option_map Number (apart 0 (header_numbers h) s.numbers.now)) (option_map Probability (apart 0 (prob_bytes h) s.probs.now))

-- a refusal's number, 0 where the frame is accepted, and what it carries stand first; of an accepted frame the header follows
unfoldable pub answer_by : Carried → Header → Stored → Option Difference
answer_by c h s =
    pick (eqb c.number (get_or s.given.now 0 0))
    (pick (eqb c.a (get_or s.given.now 1 0))
    (pick (eqb c.b (get_or s.given.now 2 0)) (pick (eqb c.number 0) (header_found h s) None) (Some Carries))
    (Some Carries))
    (Some Refusal)

unfoldable pub answer_found : Parsed → Stored → Option Difference
answer_found p s = answer_by (carried_of p.outcome) p.header s

-- what was found, or else where the kept numbers differ
unfoldable pub found_of : Parsed → Stored → Option Difference
found_of p s = option_or (answer_found p s) (option_map Kept (apart 0 (kept_bytes p.parser) s.kept.now))
