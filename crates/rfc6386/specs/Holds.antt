-- What holds of every header, whatever the bytes: the decoder's numbers stay in their ranges, a coded group has its length, and a signed
-- value the magnitude that its width leaves it.
use Rattle.std.specs.Prelude.{ℕ, ◌≤◌, ◌<◌, ◌⊎◌, ◌≡◌, List, [], ℤ, nat_abs, length}
use Rattle.std.proofs.Math.Option.{Option, none, some}
use Rattle.vp8_records.specs.declared.Mode.{Mode}
use Rattle.vp8_records.specs.Shape.{Every}
use Rattle.rfc6386.specs.Decoder.{State, split, read_bool, pick}
use Rattle.rfc6386.specs.Reads.{Rd, ret, ask}
use Rattle.rfc6386.specs.Coded.{Segments, mapped, Coded}

-- a read at the probability p: S lies in 1 .. R − 1, and R returns to 128 .. 255
pub record Ranged (l p : ℕ) (s : State) : Type 0 where
  pub least : 1 ≤ split s.r p
  pub most : split s.r p < s.r
  pub back : 128 ≤ (read_bool l p s).then.r
  pub byte : (read_bool l p s).then.r < 256

-- so at every read of a run
abbrev pub AllRanged : {A : Type 0} → Rd A → ℕ → State → Type 0
AllRanged (ret a) l s = Unit {0}
AllRanged (ask p k) l s = Ranged l p s × AllRanged (k (read_bool l p s).got) l (read_bool l p s).then

-- n options, or none where the group is not coded
abbrev pub Group : {A : Type 0} → ℕ → List A → Type 0
Group n us = (us ≡ []) ⊎ (length us ≡ n)

-- the segment probabilities are coded just where the mode and the flags say
abbrev pub Mapped : Mode → Segments → Type 0
Mapped md g = length g.probs ≡ pick (mapped md g.update_map g.update_data) 3 0

-- each group is as long as its record's run, so that nothing of it is dropped when it is written over that; at most 8 partitions
pub record Fits (md : Mode) (c : Coded) : Type 0 where
  pub quantizers : Group 4 c.segments.quantizers
  pub levels : Group 4 c.segments.levels
  pub probs : Group 3 c.segments.probs
  pub map : Mapped md c.segments
  pub frames : Group 4 c.deltas.frames
  pub modes : Group 4 c.deltas.modes
  pub log2parts : c.log2parts < 4
  pub coeffs : Group 1056 c.coeffs
  pub luma : Group 4 c.inter.luma
  pub chroma : Group 3 c.inter.chroma
  pub motion : Group 38 c.inter.motion

-- at most n in magnitude
abbrev pub Within : ℕ → ℤ → Type 0
Within n z = nat_abs z ≤ n

-- of the value, where there is one
abbrev pub Perhaps : {A : Type 0} → (A → Type 0) → Option A → Type 0
Perhaps P none = Unit {0}
Perhaps P (some x) = P x

-- a segment's quantizer has 7 bits and a sign, its filter level and a filter delta 6 (sections 9.3 and 9.4)
pub record Bounded (c : Coded) : Type 0 where
  pub quantizers : Every (Perhaps (Within 127)) c.segments.quantizers
  pub levels : Every (Perhaps (Within 63)) c.segments.levels
  pub frames : Every (Perhaps (Within 63)) c.deltas.frames
  pub modes : Every (Perhaps (Within 63)) c.deltas.modes
