-- Five stores, one after another: `five`.
use mathlib.Core.Path.{◌≡◌, refl, ap, ap₂, ◌∙◌}
use mathlib.Core.List.{List, ◌++◌}
use Prim.Native.Nat.{ℕ}
use lib.ListN.{length}
use lib.Seq.{paste}
use borrow.Author.Rules.{rules}
use Rattle.vp8_state.specs.Block.{heading}
use Rattle.vp8_state.proofs.Pastes.{five}
use Rattle.vp8_state.proofs.put_sections.Goals as goal

pub returns : goal.returns
unfolding heading
returns c =
    let sized : length c.args.parser.coeff_prob.v ≡ 1056 = search rules in
    let front_sized : length c.args.first ≡ 25 = search rules in
    let modes = c.modes in
    let motion = c.motion in
    let v : length motion.result ≡ 38 = search rules in
    let w : length modes.result ≡ 7 = search rules in
    let u = c.args.parser.coeff_prob.v in
    c.put-5.ensures
    ∙ ap (λ (l : List ℕ). paste l 1141 modes.result (length modes.result))
    (c.put-4.ensures
    ∙ ap (λ (l : List ℕ). paste l 1103 motion.result (length motion.result))
    (c.put-3.ensures
    ∙ ap (λ (l : List ℕ). paste l 47 u (length u))
    (c.put-2.ensures ∙ ap (λ (l : List ℕ). paste l 22 c.args.first (length c.args.first)) c.put.ensures)))
    ∙ five c.args.block.now heading c.args.first u motion.result modes.result c.requires refl (front_sized)
    (sized) v w
    ∙ ap₂ {C = List ℕ} (λ x y. heading ++ c.args.first ++ u ++ x ++ y) motion.ensures modes.ensures
