-- Both modes show of every case what the list says: by computing, bool by bool.
use mathlib.Core.Path.{◌≡◌, refl}
use mathlib.Core.List.{map}
use Rattle.vp8_probs.specs.Tables.{coeff_update, mv_update}
use Rattle.vp8_records.specs.declared.Mode.TheVariants.{Rust, Standard}
use Rattle.vp8_records.specs.Start.{fresh, blank}
use Rattle.rfc6386.specs.Decoder.{number, start, double, normal, chosen, read_bool, whole, count_of, position, past}
use Rattle.rfc6386.specs.Reads.{◌>>=◌, run, bool, flag, when, lit_from, lit, sint, make, times, each, maybe, or_else}
use Rattle.rfc6386.specs.Runs.{over}
use Rattle.rfc6386.specs.Coded.{anew, features, segments, deltas, quant, refresh, coefficients, motion, modes, inter, header}
use Rattle.rfc6386.specs.Frame.{key_chunk, chunk, snapshot, coded_sizes, sum, sizes, headed, body, decode}
use Rattle.rfc6386.specs.Call.{segmented, apply, cleared, header_of, call, after}
use Rattle.rfc6386_cases.specs.Modes.{Twice, shown, twice, Ends, ended, ends}

pub modes_show : (map (shown Rust) twice ≡ map (λ (x : Twice). x.rust) twice)
    × (map (shown Standard) twice ≡ map (λ (x : Twice). x.standard) twice)
    × (map (ended Rust) ends ≡ map (λ (x : Ends). x.rust) ends) × (map (ended Standard) ends ≡ map (λ (x : Ends). x.standard) ends)
unfolding twice ends fresh blank coeff_update mv_update over number start double normal chosen read_bool whole count_of position past
    ◌>>=◌ run bool flag when lit_from lit sint make times each maybe or_else
    anew features segments deltas quant refresh coefficients motion modes inter header
    key_chunk chunk snapshot coded_sizes sum sizes headed body decode segmented apply cleared header_of call after
modes_show = (refl, refl, refl, refl)
