-- Which frames cut off the past, and what a frame writes to each kept number. It is written from the rules on what is kept and the
-- refusal table (docs/RULES.md), and not from the definition of a call; proofs/History.antt shows that calls follow it.
use Rattle.std.specs.Prelude.{ℕ, zero, suc, ◌≡◌, Bool, true, false, not, ◌&&◌, ◌||◌, List, [], ◌∷◌, map, ltb, ℤ, pos, length, get_or, Ok, Err}
use Rattle.std.proofs.Math.Option
use Rattle.std.proofs.Math.Option.{Option, none, some}
use Rattle.vp8_records.specs.Outcome.{Outcome}
use Rattle.vp8_records.specs.declared.Refusal.TheVariants.{ChunkTooShort, InvalidStartCode, InvalidPartitionSize, EmptyArea, EndOfHeader, FrameTooLong}
use Rattle.rfc6386.specs.Decoder.{pick}
use Rattle.rfc6386.specs.Runs.{or}
use Rattle.rfc6386.specs.Coded.{Coded}
use Rattle.rfc6386.specs.Call.{Asked}
use Rattle.rfc6386_history.specs.Refusals.{key_of, right_code, too_long, coded, outcome_of}
use Rattle.rfc6386_history.specs.Kept.{flagged, all}

-- a cutter: under 2^28 bytes with a valid key-frame chunk, which is 10 bytes with a right start code; 3, 4 or 5 may still refuse it
abbrev pub cutter : List ℕ → Bool
cutter f = key_of f && not (too_long f) && not (ltb (length f) 10) && right_code f

unfoldable pub any_cutter : List Asked → Bool
any_cutter [] = false
any_cutter (x ∷ xs) = cutter x.frame || any_cutter xs

-- the calls since the latest cutter, that one too; all of them where there is none
unfoldable pub since : List Asked → List Asked
since [] = []
since (x ∷ xs) = pick (any_cutter xs) (since xs) (x ∷ xs)

-- the calls before it; none where there is none
unfoldable pub before : List Asked → List Asked
before [] = []
before (x ∷ xs) = pick (any_cutter xs) (x ∷ before xs) []

-- a run of calls that begins with a cutter and has no other
abbrev pub Latest : List Asked → Type 0
Latest [] = ⊥
Latest (x ∷ xs) = (cutter x.frame ≡ true) × (any_cutter xs ≡ false)

-- n of them; nothing is written to a group that is not coded
unfoldable pub fit : {A : Type 0} → ℕ → List (Option A) → List (Option A)
fit zero us = []
fit (suc n) [] = none ∷ fit n []
fit (suc n) (u ∷ us) = u ∷ fit n us

abbrev pub bytes : ℕ → List (Option ℕ) → List (Option ℤ)
bytes n us = fit n (map (Option.map pos) us)

-- probabilities, written only if refresh_entropy_probs is set
abbrev pub saved : Coded → ℕ → List (Option ℕ) → List (Option ℤ)
saved c n us = bytes n (pick c.refresh.entropy us [])

abbrev pub always : Bool → Option ℤ
always b = some (flagged b)

-- what a header read to its end writes to each number; a key frame codes no mode probabilities
unfoldable pub written : Coded → List (Option ℤ)
written c =
    all (
    (always c.segments.enabled ∷ always c.segments.update_map ∷ always c.segments.update_data
    ∷ Option.map flagged c.segments.mode ∷ [])
    ∷ fit 4 c.segments.quantizers
    ∷ fit 4 c.segments.levels
    ∷ bytes 3 c.segments.probs
    ∷ (always c.deltas.enabled ∷ always c.deltas.update ∷ [])
    ∷ fit 4 c.deltas.frames
    ∷ fit 4 c.deltas.modes
    ∷ saved c 1056 c.coeffs
    ∷ saved c 38 c.inter.motion
    ∷ saved c 4 c.inter.luma
    ∷ saved c 3 c.inter.chroma
    ∷ [])

-- what a frame writes; a reset is no write, since the past is cut off there
abbrev pub wrote : Outcome → Bool → Coded → List (Option ℤ)
wrote (Ok u) key c = written c
wrote (Err EndOfHeader) key c = written c
wrote (Err EmptyArea) key c = pick key [] (none ∷ always false ∷ always false ∷ [])
wrote (Err (InvalidPartitionSize end n)) key c = []
wrote (Err (InvalidStartCode code)) key c = []
wrote (Err ChunkTooShort) key c = []
wrote (Err (FrameTooLong n)) key c = []

-- what a call writes to number i
unfoldable pub writes : Asked → ℕ → Option ℤ
writes x i =
    let md = x.mode in
    let f = x.frame in
    get_or (wrote (outcome_of md f) (key_of f) (coded md (key_of f) f)) i none

-- the last that is written
unfoldable pub last : {A : Type 0} → List (Option A) → Option A
last [] = none
last (none ∷ us) = last us
last (some x ∷ us) = some (or (last us) x)
