-- The slice ends as what the text's buffer holds, since the text stands in that slice; and that is told by the text's contracts: `lent`.
use mathlib.Core.Path.{◌≡◌, ap, ◌∙◌}
use borrow.Author.Rules.{rules}
use Rattle.text.specs.Text.{text}
use Rattle.text.proofs.Puts.{lent}
use Rattle.text.proofs.bytes_at.Goals as goal

pub returns : goal.returns
returns c =
    let ends = lent c.args.src.now c.after-to.ensures c.bytes.ensures in
    let place = ends.0 in
    let holds : _ ≡ c.bytes.new.self.buffer.now = search (rules, place) in
    ap (λ xs. text xs c.count.result) holds ∙ ap (text c.bytes.new.self.buffer.now) c.count.ensures ∙ ends.1
