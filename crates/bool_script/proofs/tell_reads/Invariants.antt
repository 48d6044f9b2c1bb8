use mathlib.Core.Path.{◌≡◌}
use Rattle.text.specs.Told.{told}
use Rattle.bool_script.proofs.Turns.{Turn}
use Rattle.bool_script.proofs.tell_reads.Given as goal

abbrev pub invariant-loop-place : goal.invariant-loop-place
invariant-loop-place g l =
    let view = told g.B.Buffer.place g.B.AsSlice.items in
    (l.place-iterator.iter.size ≡ 2)
    × Turn g.D.BareDecoder.area g.D.BareDecoder.state l.fn.dec l.reads (view l.initial.out) l.dec (view l.out)
    l.place-iterator.iter.rest.now l.place-iterator.count
