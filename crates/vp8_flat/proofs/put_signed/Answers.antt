-- After i turns the bytes of the first i numbers are put: `Runs`.
use mathlib.Core.Path.{sym, ap, ◌∙◌}
use lib.ListN.{get_or}
use borrow.Author.Rules.{rules}
use lib.IntN.{pos}
use mir.Val.{SFits, of_z}
use mir.Syntax.{w8}
use mir.Facts.{to_z-of_z}
use Rattle.text.proofs.Puts.{puts_nil}
use Rattle.text.specs.Text.{put}
use Rattle.text.specs.Told.{told}
use Rattle.vp8_flat.proofs.Runs.{turn}
use Rattle.vp8_flat.proofs.put_signed.Goals as goal

pub loop-x-init : goal.loop-x-init
loop-x-init g c = sym (puts_nil _)

pub loop-x-preserved : goal.loop-x-preserved
loop-x-preserved g c =
    let l = c.loop-x in
    let fits : SFits w8 (get_or c.args.v l.x-index (pos 0)) = search rules in
    let read = to_z-of_z {w = w8} fits in
    turn (of_z w8) _ _ _ c.args.v _ _ (search rules) l.invariant
    (c.byte.ensures ∙ ap (put (told g.B.Buffer.place g.B.AsSlice.items l.out)) (c.byte_of.ensures ∙ ap (of_z w8) read))
