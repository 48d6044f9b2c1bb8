-- Every parser record that code can hold has arrays of its type's lengths: what owning a value of the type tells (`Is`) holds the length of
-- each array, level by level.
use Rattle.std.proofs.Common.{List, [], ◌∷◌}
use mir.Val.{Val}
use denote.Laws.{Is}
use Rattle.vp8_records.specs.declared.MvContext.{MvContext}
use Rattle.vp8_records.specs.declared.MvProbs.{MvProbs}
use Rattle.vp8_records.specs.declared.Parser.{Parser}
use Rattle.vp8_records.specs.Shape.{SizedMvContext, SizedMv, Sized}
use Rattle.vp8_records.proofs.Arrays.{every_of}
use Rattle.vp8_records.specs.contracts.MvContext as T₁
use Rattle.vp8_records.specs.contracts.MvProbs as T₂
use Rattle.vp8_records.specs.contracts.Parser as T

pub mv_context : (x : MvContext) (vs : List Val) → Is T₁.the_row x vs → SizedMvContext x
mv_context x vs h = h.1.1.0.1.0.1

pub mv : (x : MvProbs) (vs : List Val) → Is T₂.the_row x vs → SizedMv x
mv x vs h = (h.1.1.0.1.0.1, every_of T₁.the_row.own_val SizedMvContext (λ y u i. mv_context y (u ∷ []) i) x.v h.1.1.0.0 h.1.1.0.1.1)

pub typed_sized : (p : Parser) (vs : List Val) → Is T.the_row p vs → Sized p
typed_sized p vs h =
    let segmentation = h.1.1.0.1.1 in
    let adjust = h.1.1.1.0.1.1 in
    let probs = h.1.1.1.1 in
    let modes = probs.1.1.0.1.1 in
    record {
      quantizers = segmentation.1.1.1.1.0.1.0.1;
      levels = segmentation.1.1.1.1.1.0.1.0.1;
      probs = segmentation.1.1.1.1.1.1.0.1.0.1;
      frames = adjust.1.1.0.1.0.1;
      modes = adjust.1.1.1.0.1.0.1;
      coeffs = probs.0.1.1.0.1.0.1;
      motion = mv p.mv_prob _ probs.1.0;
      luma = modes.0.1.0.1;
      chroma = modes.1.0.1.0.1;
    }
