-- The three stages one after the other are the definition's tree; `built` puts the answer together.
use Prim.Native.Nat.{ℕ}
use mathlib.Core.List.{List}
use mathlib.Core.Path.{subst}
use denote.Ref.{Bor}
use Rattle.rfc6386.specs.Decoder.{bits}
use Rattle.rfc6386.specs.Frame.{snapshot}
use Rattle.bool_decoder.specs.Model.{state_of}
use Rattle.bool_decoder.proofs.Steps.{moved, then, done}
use Rattle.bool_decoder.proofs.Made.{made, same}
use Rattle.vp8_header.specs.Headed.{Heads}
use Rattle.vp8_header.proofs.Built.{built}
use Rattle.vp8_header.proofs.Whole.{stages}
use Rattle.vp8_header.proofs.parse_frame_header.Goals as goal

pub returns : goal.returns
returns c = let given = c.args in
    let fresh = c.new-dec.ensures in
    let a = made c.parse_first-first.ensures in
    let b = made c.parse_second-second.ensures in
    let t = made c.parse_third-third.ensures in
    let reads = then _ a.ran (then _ b.ran (then _ t.ran done)) in
    let whole = moved fresh.over (same (stages given.mode given.chunk.key_frame) reads) in
    let x = c.parse_first-first.result in
    let y = c.parse_second-second.result in
    let z = c.parse_third-third.result in
    let s = state_of c.parse_third-third.new.dec in
    let heads =
    subst (λ (at : Bor (List ℕ)). Heads c.header_of-header.result given.chunk x y z (snapshot (bits at.now) s)) whole.over
    c.header_of-header.ensures in
    built given.mode given.chunk given.parser given.area.now a.value b.value t.value _ _ _ _ _ _
    a.is b.is t.is (rw fresh.state at whole.is) heads c.kept-parser.ensures
