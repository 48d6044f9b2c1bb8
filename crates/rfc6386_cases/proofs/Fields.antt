-- Every example's answer is the one that the definition gives: by computing, bool by bool.
use mathlib.Core.Path.{◌≡◌, refl}
use mathlib.Core.List.{map}
use Rattle.vp8_probs.specs.Tables.{coeff_update, mv_update, coeff_default, mv_default}
use Rattle.vp8_records.specs.Layout.{rows, joined}
use Rattle.vp8_records.specs.Start.{fresh_coeffs, fresh_mv, fresh}
use Rattle.rfc6386.specs.Decoder.{number, start, double, normal, chosen, read_bool, whole, count_of, position, past}
use Rattle.rfc6386.specs.Reads.{◌>>=◌, run, bool, flag, when, lit_from, lit, sint, make, times, each, maybe, or_else}
use Rattle.rfc6386.specs.Runs.{over}
use Rattle.rfc6386.specs.Coded.{anew, features, segments, deltas, quant, refresh, coefficients, motion, modes, inter, header}
use Rattle.rfc6386.specs.Frame.{key_chunk, chunk, snapshot, coded_sizes, sum, sizes, headed, body, decode}
use Rattle.rfc6386.specs.Call.{segmented, adjusted, coeffs_over, mv_over, modes_over, probs_over, apply, header_of, call}
use Rattle.rfc6386_cases.specs.Cases.{marked}
use Rattle.rfc6386_cases.specs.Fields.{Example, examples}

pub fields_hold : map (λ (x : Example). call x.mode x.over x.bytes) examples ≡ map (λ (x : Example). x.answer) examples
unfolding examples marked fresh fresh_coeffs fresh_mv coeff_update mv_update coeff_default mv_default rows joined over
    number start double normal chosen read_bool whole count_of position past
    ◌>>=◌ run bool flag when lit_from lit sint make times each maybe or_else
    anew features segments deltas quant refresh coefficients motion modes inter header
    key_chunk chunk snapshot coded_sizes sum sizes headed body decode
    segmented adjusted coeffs_over mv_over modes_over probs_over apply header_of call
fields_hold = refl
