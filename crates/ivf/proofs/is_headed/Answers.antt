-- The length first, then the bytes.
use mathlib.Core.Path.{◌∙◌}
use borrow.Author.Tests.{lt-ltb, le-ltb, lt-leb}
use Rattle.ivf.specs.Ivf.{headed, magic}
use Rattle.ivf.proofs.Starts.{starts_lem}
use Rattle.ivf.proofs.is_headed.Goals as goal

pub returns-then-file-ge32 : goal.returns-then-file-ge32
unfolding headed
returns-then-file-ge32 c = rw (le-ltb _ _ c.if-file-ge32.true) (c.starts_with.ensures.value ∙ starts_lem magic c.args.file.now)

pub returns-else-file-ge32 : goal.returns-else-file-ge32
unfolding headed
returns-else-file-ge32 c = rw (lt-ltb _ _ c.if-file-ge32.false, lt-leb _ _ c.if-file-ge32.false)
