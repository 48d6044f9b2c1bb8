-- The run of `all`, back to the bytes that it looks at: `judged`.
use Rattle.std.proofs.Common.{rules}
use Prim.Native.Nat.{◌*◌}
use mathlib.Core.Path.{refl, ap, ◌∙◌}
use Rattle.std.specs.Option.{option_map}
use Rattle.bool_script.specs.Script.{known}
use Rattle.bool_script.proofs.Known.{judged}
use Rattle.bool_script.proofs.kinds_known.Goals as goal

pub returns : goal.returns
returns c = let p = c.all.ensures.runs in
    let q = c.step_by.ensures.runs p.0 p.0.seen p.1 in
    let r = c.iter.ensures.runs q.0 q.0.seen in
    judged q.0.from.rest.now c.all.result p.0.whole p.0.at p.0.len q.0.len (λ a r f h. refl) p.2 r.0 (λ w. r.1 (q.2.0 ∙ w)) q.2.3
    (λ k l. ap (option_map (λ y. y.now)) (q.2.4 k) ∙ r.2 (k * 2) 0 l) (λ y h. search rules) (λ y h. search rules)
    ∙ ap known (ap (λ s. s.rest.now) q.1 ∙ c.iter.ensures.rest)
