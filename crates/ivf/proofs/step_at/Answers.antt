-- Each answer by the tests that led to it.
use mathlib.Core.Path.{ap, ◌∙◌}
use Rattle.std.proofs.Common.{Some, Ok}
use Rattle.ivf.proofs.Steps.{at_end, no_size, no_bytes, a_frame}
use Rattle.ivf.proofs.step_at.Goals as goal

pub returns-then-left-eq0 : goal.returns-then-left-eq0
returns-then-left-eq0 c = at_end _ _ c.if-left-eq0.true

pub returns-then-left-lt12 : goal.returns-then-left-lt12
returns-then-left-lt12 c = no_size _ _ c.if-left-eq0.false c.if-left-lt12.true

pub returns-then-left-size : goal.returns-then-left-size
returns-then-left-size c = let size = c.read_le4-size.ensures in
    no_bytes _ _ c.if-left-eq0.false c.if-left-lt12.false (rw size at c.if-left-size.true)

pub returns : goal.returns
returns c = let size = c.read_le4-size.ensures in
    ap (λ n. Ok (Some n)) size ∙ a_frame _ _ c.if-left-eq0.false c.if-left-lt12.false (rw size at c.if-left-size.false)
