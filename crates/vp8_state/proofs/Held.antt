-- Every parser record that code can hold is `Typed`: what owning a value of the type tells has the range of each signed number. So what is
-- said of records that can be written needs no premise on them.
use mathlib.Core.Path.{◌≡◌}
use mathlib.Core.List.{List}
use Prim.Native.Nat.{ℕ}
use mir.Syntax.{w8}
use mir.Val.{Val, SFits}
use denote.Laws.{Is}
use denote.Shadow.{shadow}
use denote.Array.{each}
use denote.Builtin.{i8}
use lib.IntN.{ℤ}
use Rattle.vp8_records.specs.declared.Parser.{Parser}
use Rattle.vp8_records.specs.Shape.{Every}
use Rattle.vp8_records.proofs.Arrays.{every_of}
use Rattle.vp8_records.proofs.Typed.{typed_sized}
use Rattle.vp8_records.specs.contracts.Parser as Held
use Rattle.rfc6386_history.specs.Sound.{Sound}
use Rattle.std.proofs.Common.{Ok}
use Rattle.vp8_state.specs.Block.{block}
use Rattle.vp8_state.specs.Handed.{read_block, write_block}
use Rattle.vp8_state.proofs.Laid.{Typed}
use Rattle.vp8_state.proofs.Blocks.{written_sound, read_back}

-- an array of signed bytes holds nothing else
ranged : (xs : List ℤ) (us : List Val) → shadow (each ℤ i8.own_val xs us) → Every (SFits w8) xs
ranged = every_of i8.own_val (SFits w8) (λ x u o. record { sfits = o.1 })

module _ (p : Parser) (vs : List Val) (held : Is Held.the_row p vs) where
  pub held_typed : Typed p
  held_typed =
      let segmentation = held.1.1.0.1.1.1.1.1.1 in
      let adjust = held.1.1.1.0.1.1.1.1 in
      let quantizers = segmentation.0 in
      let levels = segmentation.1.0 in
      let frames = adjust.0 in
      let modes = adjust.1.0 in
      record {
        sized = typed_sized p vs held;
        quantizers = ranged p.segmentation.quantizer_update_value quantizers.0 quantizers.1.1;
        levels = ranged p.segmentation.lf_update_value levels.0 levels.1.1;
        frames = ranged p.mb_lf_adjust.ref_frame_delta frames.0 frames.1.1;
        modes = ranged p.mb_lf_adjust.mb_mode_delta modes.0 modes.1.1;
      }

  -- a record that can be written has a block, which is taken and gives it back
  module _ (b : List ℕ) (h : (write_block p b).answer ≡ Ok tt) where
    pub held_sound : Sound p
    held_sound = written_sound p b held_typed h

    pub held_back : read_block (block p) ≡ record { verdict = Ok tt; parser = p }
    held_back = read_back p held_sound
