use Prim.Native.Nat.{◌+◌, ◌*◌, ◌≤◌}
use mathlib.Core.Path.{◌≡◌}
use lib.ListN.{drop}
use Rattle.text.specs.Text.{puts}
use Rattle.text.specs.Told.{told}
use Rattle.vp8_show.specs.Printed.{partition_lines}
use Rattle.vp8_show.proofs.print.partition_lines.Given as goal

abbrev pub invariant-loop-i : goal.invariant-loop-i
invariant-loop-i g l = let view = told g.B.Buffer.place g.B.AsSlice.items in record {
  low : l.from ≤ 8589934592 + l.i * 4294967296;
  whole : puts (view l.out) (partition_lines l.i l.from (drop l.i l.sizes)) ≡ puts (view l.initial.out) (partition_lines 0 l.start l.sizes);
}
