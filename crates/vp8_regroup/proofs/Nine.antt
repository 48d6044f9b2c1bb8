-- Level and sharpness as one literal of nine bools: `regroup` at six and three. In the header's stage the two are one tree, by `assoc`.
use Prim.Native.Nat.{ℕ, ◌/◌, ◌%◌}
use mathlib.Core.Path.{◌≡◌, ◌∙◌}
use mathlib.Core.Bool.{Bool, false}
use Rattle.vp8_records.specs.declared.Mode.{Mode}
use Rattle.rfc6386.specs.Reads.{Rd, ret, ◌>>=◌, flag, when, lit, make}
use Rattle.rfc6386.specs.Coded.{segments}
use Rattle.rfc6386.proofs.Trees.{assoc, onward}
use Rattle.rfc6386.proofs.Split.{regroup}
use Rattle.bool_decoder.specs.Model.{Ran, Lit}
use Rattle.bool_decoder.specs.declared.BoolDecoder.{BoolDecoder}
use Rattle.bool_decoder.proofs.Steps.{then, done}
use Rattle.bool_decoder.proofs.Same.{same_read}
use Rattle.vp8_header.specs.Stages.{FirstCoded, first}
use Rattle.vp8_header.specs.declared.First.{First}
use Rattle.vp8_regroup.specs.Filter.{filter, filter_of}
use Rattle.vp8_regroup.specs.declared.Filter as F

-- the definition's two reads are one literal, of which 8 divides off the level
pub nine : filter ≡ make (λ v. record { level = v / 8; sharpness = v % 8 }) (lit 9)
unfolding filter make
nine = regroup 6 3 (λ ll sh. ret (record { level = ll; sharpness = sh }))

-- the header's first stage with both as one read
unfoldable pub first_by : Mode → Bool → Rd FirstCoded
first_by md key = do
  cs ← when key flag false
  ct ← when key flag false
  sg ← segments md
  ft ← flag
  f ← filter
  ret (record { color_space = cs; clamping = ct; segments = sg; filter_type = ft; level = f.level; sharpness = f.sharpness })

pub first_by_lem : (md : Mode) (key : Bool) → first_by md key ≡ first md key
unfolding first_by first filter ◌>>=◌
first_by_lem md key =
    onward (when key flag false) (λ cs.
    onward (when key flag false) (λ ct.
    onward (segments md) (λ sg.
    onward flag (λ ft.
    assoc (lit 6) _ _ ∙ onward (lit 6) (λ ll. assoc (lit 3) _ _)))))

-- no contract leaves a choice
pub one_filter : {d e f : BoolDecoder} {r q : F.Filter} → Ran filter d (filter_of r) e 9 → Ran filter d (filter_of q) f 9
    → (r ≡ q) × (e ≡ f)
one_filter p q =
    let s = same_read p q in
    (λ i. record { level = (s.0 i).level; sharpness = (s.0 i).sharpness }, s.1)

pub one_first : {m : Rd First} {d e f : BoolDecoder} {r q : First} → Ran m d r e 111 → Ran m d q f 111 → (r ≡ q) × (e ≡ f)
one_first = same_read

-- whatever the contracts let two reads answer, of six bools and of three, and `read_filter`: level, sharpness and decoder are equal
pub two_are_one : {d e f g : BoolDecoder} {level sharpness : ℕ} {r : F.Filter} → Lit 6 d level e → Lit 3 e sharpness f
    → Ran filter d (filter_of r) g 9 → (record { level = level; sharpness = sharpness } ≡ r) × (f ≡ g)
unfolding filter
two_are_one p q = one_filter (then _ p.ran (then _ q.ran done))
