use mathlib.Core.List.{map}
use lib.ListN.{take}
use mir.Syntax.{w8}
use mir.Val.{of_z}
use Rattle.text.specs.Told.{Puts}
use Rattle.vp8_flat.proofs.put_signed.Given as goal

abbrev pub invariant-loop-x : goal.invariant-loop-x
invariant-loop-x g l = Puts g.B.Buffer.place g.B.AsSlice.items l.initial.out (map (of_z w8) (take l.x-index l.x-items)) l.out
