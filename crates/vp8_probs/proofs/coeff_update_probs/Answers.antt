-- The constant is the definition's table, by computing; its rule is `none_zero`.
use Rattle.std.proofs.Common.{refl}
use Rattle.vp8_probs.specs.Tables.{coeff_update}
use Rattle.vp8_probs.proofs.Rule.{none_zero}
use Rattle.vp8_probs.proofs.coeff_update_probs.Goals as goal

pub returns : goal.returns
unfolding coeff_update
returns c = (refl, none_zero)
