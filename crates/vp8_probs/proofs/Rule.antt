-- A rule of a table: one test, computed over all of it, and the rule at each entry from that.
use Rattle.std.proofs.Common.{◌≡◌, ℕ, ◌<◌, true, ltb, get_or, refl}
use Rattle.std.proofs.lemmas.Bool.{ltb-true}
use Rattle.std.proofs.lemmas.List.Elements.{All-get_or}
use Rattle.std.proofs.lemmas.List.Sums.{AllPass-from_list_all}
use Rattle.vp8_probs.specs.Tables.{coeff_update}

-- no coefficient update probability is zero
pub none_zero : (n : ℕ) → n < 1056 → 0 < get_or coeff_update n 0
unfolding coeff_update
none_zero n h =
    ltb-true 0 _ (All-get_or (λ (x : ℕ). ltb 0 x ≡ true) coeff_update n 0 h (AllPass-from_list_all (ltb 0) coeff_update refl))
