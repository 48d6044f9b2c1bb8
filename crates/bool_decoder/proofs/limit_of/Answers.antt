-- Each branch is the definition's, by its test.
use Prim.Native.Nat.{◌/◌, ◌^◌}
use borrow.Author.Tests.{lt-ltb, le-ltb}
use Rattle.bool_decoder.specs.Window.{limit_of}
use Rattle.bool_decoder.proofs.limit_of.Goals as goal

pub returns-then-top-lt127 : goal.returns-then-top-lt127
unfolding limit_of
returns-then-top-lt127 c = rw (lt-ltb (c.args.value / 2 ^ 56) 127 c.if-top-lt127.true)

pub returns-else-top-lt127 : goal.returns-else-top-lt127
unfolding limit_of
returns-else-top-lt127 c = rw (le-ltb (c.args.value / 2 ^ 56) 127 c.if-top-lt127.false)
