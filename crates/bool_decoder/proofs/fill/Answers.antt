-- The window is shifted, and where eight bits are free the next byte comes in: `kept` and `byte_in`.
use Rattle.bool_decoder.specs.Window.{v_of}
use Rattle.bool_decoder.proofs.Over.{kept, byte_in}
use Rattle.bool_decoder.proofs.fill.Goals as goal

pub returns-then-free-lt8 : goal.returns-then-free-lt8
returns-then-free-lt8 c = let a = c.args in
    let v = v_of a.area.now a.doublings a.value in
    let bytes = c.type_inv.area in
    kept a.area.now (λ i. (bytes i).fits) a.doublings v a.value c.requires.0 a.shift c.requires.2 c.if-free-lt8.true

pub returns : goal.returns
returns c = let a = c.args in
    let v = v_of a.area.now a.doublings a.value in
    let bytes = c.type_inv.area in
    byte_in a.area.now (λ i. (bytes i).fits) a.doublings v a.value c.requires.0 a.shift c.requires.2
    c.byte_at-byte.result c.byte_at-byte.ensures c.if-free-lt8.false

pub overflow_add-result : goal.overflow_add-result
overflow_add-result c = record { fits = (returns c).small }
