-- The contract of `parse_frame` admits one answer: each thing that it speaks of equals the same value of the definition. Of the reference
-- it says which bytes lie behind it and where they begin; these are the caller's bytes, so no more is left open than its ghost name.
use Prim.Native.Nat.{ℕ}
use mathlib.Core.Path.{◌≡◌, sym, ◌∙◌}
use mathlib.Core.List.{List}
use Rattle.vp8_records.specs.declared.Header.{Header}
use Rattle.vp8_records.specs.declared.Mode.{Mode}
use Rattle.vp8_records.specs.declared.Parser.{Parser}
use Rattle.vp8_records.specs.Outcome.{Outcome}
use Rattle.vp8_frame.specs.View.{Framed}

pub same : {md : Mode} {p : Parser} {f : List ℕ} {o o' : Outcome} {h h' : Header} {s s' : List ℕ} {q q' : Parser} → Framed md p f o h s q
    → Framed md p f o' h' s' q'
    → (o ≡ o') × (h ≡ h') × (s ≡ s') × (q ≡ q')
same a b = (a.says ∙ sym b.says, a.reads ∙ sym b.reads, a.refers ∙ sym b.refers, a.leaves ∙ sym b.leaves)
