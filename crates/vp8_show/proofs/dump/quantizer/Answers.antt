-- The index, then the deltas; each is read back from the byte that the record holds.
use Prim.Native.Nat.{ℕ}
use mathlib.Core.Path.{ap}
use mathlib.Core.List.{◌++◌}
use borrow.Author.Rules.{rules}
use Rattle.text.specs.Digits.{decimal_of}
use Rattle.text.specs.Template.{ascii}
use Rattle.text.proofs.Puts.{then, worded}
use Rattle.vp8_show.specs.Dumped.{quant_text}
use Rattle.vp8_show.proofs.Laws.{delta_is}
use Rattle.vp8_show.proofs.dump.quantizer.Goals as goal

pub returns : goal.returns
unfolding quant_text
returns g c =
    let q = c.args.q in
    then _ _ _ _ _ (worded _ _ _ _ c.named.ensures (ap (λ (n : ℕ). ascii " q=" ++ decimal_of n) c.from.ensures))
    (then _ _ _ _ _ (delta_is _ _ q.y_dc_delta (search rules) c.delta.ensures)
    (then _ _ _ _ _ (delta_is _ _ q.y2_dc_delta (search rules) c.delta-2.ensures)
    (then _ _ _ _ _ (delta_is _ _ q.y2_ac_delta (search rules) c.delta-3.ensures)
    (then _ _ _ _ _ (delta_is _ _ q.uv_dc_delta (search rules) c.delta-4.ensures)
    (delta_is _ _ q.uv_ac_delta (search rules) c.delta-5.ensures)))))
