-- Each test answers the definition's, and each end is one law of Frames over the state that the frame starts from.
use Prim.Native.Nat.{ℕ, ◌-◌}
use native.Mathlib.Omega.{arith}
use mathlib.Core.Path.{◌≡◌, sym, ap, ap₂, ◌∙◌}
use mathlib.Core.List.{List}
use lib.ListN.{length, take, drop, length-drop}
use lib.Seq.{take_all}
use Rattle.std.proofs.lemmas.Bool.{eqb-true, eqb-false}
use Rattle.vp8_records.specs.declared.Parsed.{Parsed}
use Rattle.rfc6386.specs.Frame.{Chunk, held}
use Rattle.rfc6386.proofs.Accepts.{held_by}
use Rattle.vp8_header.specs.Headed.{chunk_of}
use Rattle.vp8_parser.specs.Answers.{sized_of}
use Rattle.vp8_parser.proofs.Frames.{ends_beyond, ends_empty, ends_read}
use Rattle.vp8_parser.proofs.parse_body.Goals as goal

-- the part from the chunk's end on is all that follows it
area_is : (at : ℕ) (f : List ℕ) → take (length f - at) (drop at f) ≡ drop at f
area_is at f = take_all (length f - at) (drop at f) (omega (arith, length-drop at f))

pub returns-then-bytes-end : goal.returns-then-bytes-end
returns-then-bytes-end c = c.refused.ensures ∙ rw c.base_of-from.ensures (ends_beyond _ _ _ _ c.if-bytes-end.true)

pub returns-then-is_empty : goal.returns-then-is_empty
returns-then-is_empty c = let a = c.args in
    let k : Chunk = chunk_of a.chunk in
    let f : List ℕ = a.bytes.now in
    let none : length c.held-held.result.now ≡ 0 = eqb-true _ 0 (sym c.is_empty.ensures ∙ c.if-is_empty.true) in
    let e : length (held_by a.mode k f) ≡ 0 = rw (area_is k.size f) at (ap length (sym c.held-held.ensures) ∙ none) in
    c.refused-then-is_empty.ensures
    ∙ rw (c.clear_updates.ensures, c.base_of-from.ensures) (ends_empty a.mode k _ f c.if-bytes-end.false e)

pub returns : goal.returns
returns c = let a = c.args in
    let k : Chunk = chunk_of a.chunk in
    let f : List ℕ = a.bytes.now in
    let rest = area_is k.size f in
    let h : c.held-held.result.now ≡ held_by a.mode k f =
    c.held-held.ensures ∙ ap (λ (area : List ℕ). held a.mode k.first area) rest in
    let some = eqb-false _ 0 (sym c.is_empty.ensures ∙ c.if-is_empty.false) in
    c.parse_area.ensures
    ∙ ap₂ {C = Parsed} (λ area bytes. sized_of a.mode k area bytes c.base_of-from.result) rest h
    ∙ rw c.base_of-from.ensures (ends_read a.mode k a.parser f c.if-bytes-end.false (λ e. some (ap length h ∙ e)))
