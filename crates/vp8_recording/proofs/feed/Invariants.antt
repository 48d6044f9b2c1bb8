use Rattle.std.specs.Iterator.Adapters.{enumerate_source, zip_first, zip_second}
use Rattle.std.specs.Slice.Iter.{iter_rest}
use Rattle.vp8_recording.proofs.Feeds.{Turn}
use Rattle.vp8_recording.proofs.feed.Given as goal

abbrev pub invariant-loop-i : goal.invariant-loop-i
invariant-loop-i g l = let s = enumerate_source l.i-iterator in
    goal.F-IsAlwaysCallable g l.tell
    × Turn l.mode l.file l.offsets l.lengths l.initial.state l.state (iter_rest (zip_first s)) (iter_rest (zip_second s))
