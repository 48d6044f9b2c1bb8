-- One read after the other; each signed number fits its byte.
use mathlib.Core.Path.{◌≡◌, ◌∙◌}
use Prim.Native.Nat.{◌<◌}
use lib.IntN.{ℤ}
use lib.Signed.{mag}
use mir.Facts.{to_z-of_z}
use mir.Syntax.{w8}
use mir.Val.{to_z, of_z}
use Rattle.rfc6386.specs.Coded.{quant}
use Rattle.bool_decoder.proofs.Steps.{then, done, passed}
use Rattle.vp8_fields.proofs.quantizer.parse_quant_indices.Goals as goal

back : (z : ℤ) → mag z < 128 → to_z w8 (of_z w8 z) ≡ z
back z small = to_z-of_z {w = w8} {z = z} (record { sfits = small })

pub returns : goal.returns
unfolding quant
returns c = let q = c.read_byte-y_ac_qi in
    let a = c.sint_or-y_dc_delta in
    let b = c.sint_or-y2_dc_delta in
    let d = c.sint_or-y2_ac_delta in
    let e = c.sint_or-uv_dc_delta in
    let f = c.sint_or-uv_ac_delta in
    passed
    (c.with_past.ensures.value
    ∙ (λ i. record {
      y_ac_qi = q.result;
      y_dc_delta = back a.result a.type_inv i;
      y2_dc_delta = back b.result b.type_inv i;
      y2_ac_delta = back d.result d.type_inv i;
      uv_dc_delta = back e.result e.type_inv i;
      uv_ac_delta = back f.result f.type_inv i;
    }))
    c.with_past.ensures.past
    (then _ q.ensures.ran (then _ a.ensures (then _ b.ensures (then _ d.ensures (then _ e.ensures (then _ f.ensures done))))))
