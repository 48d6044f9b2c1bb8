-- Every call's header has the macroblocks that cover its picture, by cases on what the frame says; the rest is one division by 16.
use Prim.Native.Nat.{ℕ, ◌%◌, ◌^◌}
use native.Mathlib.Omega.{arith}
use mathlib.Core.Path.{◌≡◌, refl, ap}
use mathlib.Core.Bool.{false}
use mathlib.Core.Option.{none, some}
use mathlib.Core.List.{List}
use Rattle.vp8_records.specs.declared.Mode.{Mode}
use Rattle.vp8_records.specs.declared.Parser.{Parser}
use Rattle.vp8_records.specs.Start.{blank}
use Rattle.rfc6386.specs.Frame.{Chunk, Opened, shut, opened, chunk}
use Rattle.rfc6386.specs.Frame.{Body, beyond, empty, read, body, Said, refused, follows, inside, decode}
use Rattle.rfc6386.specs.Call.{blocks, header_of, finish, call}
use Rattle.rfc6386.specs.Covers.{Spans, Covers, NoBlocks}
use Rattle.rfc6386.proofs.Accepts.{chunk_each}

pub blocks_span : (n : ℕ) → Spans (blocks n) n
blocks_span n = record { reach = omega arith; needed = omega arith }

-- no other number of macroblocks does: so no other rounding is right
pub spans_only : (c n : ℕ) → Spans c n → c ≡ blocks n
spans_only c n s = omega (arith, s.reach, s.needed)

-- the sizes that were asked about
pub blocks_of : (blocks 0 ≡ 0) × ((blocks 1080 ≡ 68) × (blocks 16383 ≡ 1024))
blocks_of = (refl, (refl, refl))

blank_covers : Covers blank
unfolding blank
blank_covers = record { across = blocks_span 0; down = blocks_span 0 }

finish_covers : (s : Said) (p : Parser) → Covers (finish s p).header
unfolding header_of
finish_covers (refused o) p = blank_covers
finish_covers (follows k (beyond end n)) p = blank_covers
finish_covers (follows k empty) p = blank_covers
finish_covers (follows k (read c s none)) p = blank_covers
finish_covers (follows k (read c s (some ss))) p =
    record { across = blocks_span (k.width % 2 ^ 14); down = blocks_span (k.height % 2 ^ 14) }

-- of every call, refused ones too, whose header is blank
pub call_covers : (md : Mode) (p : Parser) (f : List ℕ) → Covers (call md p f).header
unfolding call
call_covers md p f = finish_covers (decode md f) p

-- a chunk that is no key frame's has no sizes
abbrev Unsized : Opened → Type 0
Unsized (shut o) = Unit {0}
Unsized (opened k) = k.key ≡ false → (k.width ≡ 0) × (k.height ≡ 0)

unsized : (f : List ℕ) → Unsized (chunk f)
unsized f =
    chunk_each Unsized f tt tt (λ e. absurd (grind arith)) (λ e. (refl, refl)) (λ h. tt)

blank_none : NoBlocks blank
unfolding blank
blank_none = (refl, refl)

-- an inter frame's header has neither columns nor rows
module _ (md : Mode) (p : Parser) where
  body_none : (k : Chunk) (b : Body) → Unsized (opened k) → (finish (follows k b) p).header.key_frame ≡ false
      → NoBlocks (finish (follows k b) p).header
  unfolding header_of
  body_none k (beyond end n) u e = blank_none
  body_none k empty u e = blank_none
  body_none k (read c s none) u e = blank_none
  body_none k (read c s (some ss)) u e =
      (ap (λ (n : ℕ). blocks (n % 2 ^ 14)) (u e).0, ap (λ (n : ℕ). blocks (n % 2 ^ 14)) (u e).1)

  pub inter_none : (f : List ℕ) → (call md p f).header.key_frame ≡ false → NoBlocks (call md p f).header
  unfolding call decode
  inter_none f = go (chunk f) (unsized f)
    where
      go : (x : Opened) → Unsized x → (finish (inside md x f) p).header.key_frame ≡ false → NoBlocks (finish (inside md x f) p).header
      go (shut o) u e = blank_none
      go (opened k) u e = body_none k (body md k f) u e
