-- Each array is what its call gives and has its own length; one after the other by `then` of `Parts`.
use Prim.Native.Nat.{◌+◌}
use native.Mathlib.Omega.{arith}
use mathlib.Core.Path.{◌≡◌}
use mathlib.Core.List.{◌++◌}
use lib.ListN.{length, length-append}
use Rattle.std.proofs.Common.{append_assoc}
use borrow.Author.Rules.{rules}
use Rattle.vp8_compare.proofs.Parts.{then}
use Rattle.vp8_compare.proofs.probs_apart.Goals as goal

pub returns : goal.returns
returns c = let coeffs = c.coeffs-coeffs.result in
    let motion = c.motion-motion.result in
    let long : length coeffs ≡ 1056 = search rules in
    let short : length motion ≡ 38 = search rules in
    let stored = c.args.stored.now in
    let two = then 0 1056 coeffs motion stored (omega (arith, long)) c.first_apart.ensures c.first_apart-2.ensures c.or.ensures in
    let size : 1094 ≡ 0 + length (coeffs ++ motion) = omega (arith, long, short, length-append coeffs motion) in
    let modes = c.modes-modes.result in
    let all = rw append_assoc at (then 0 1094 (coeffs ++ motion) modes stored size two c.first_apart-3.ensures c.or-2.ensures) in
    rw (c.coeffs-coeffs.ensures, c.motion-motion.ensures, c.modes-modes.ensures) at all
