-- A look sees what a call sees. The chunk's tests ask for at most ten bytes, so below 2^28 bytes the chunk of the first ten is the chunk of
-- all; the rest is by cases on that chunk.
use Prim.Native.Nat.{ℕ, ◌+◌, ◌*◌, ◌%◌, ◌^◌, ◌≤◌, ◌<◌}
use native.Mathlib.Nat.{min-le_left}
use native.Mathlib.Omega.{arith}
use native.Mathlib.Decide.{dec_le}
use mathlib.Core.Path.{◌≡◌, refl, sym, ap, ap₂, ◌∙◌}
use mathlib.Core.Bool.{true, false}
use mathlib.Core.List.{List}
use mathlib.Core.Option.{none, some}
use lib.Dec.{eqb, lit<}
use lib.ListN.{length, take, length-take}
use lib.Seq.{take_all, take-take, length-take-le, get_or-take}
use borrow.Author.Tests.{lt-leb, le-leb, le-ltb}
use Rattle.std.specs.Prelude.{Ok, Err}
use Rattle.vp8_records.specs.declared.Look.{Look}
use Rattle.vp8_records.specs.declared.Mode.{Mode}
use Rattle.vp8_records.specs.declared.Refusal.{Refusal}
use Rattle.vp8_records.specs.Outcome.{number_of}
use Rattle.vp8_records.specs.declared.Refusal.TheVariants.{InvalidStartCode, FrameTooLong}
use Rattle.vp8_records.specs.declared.Parsed.{Parsed}
use Rattle.vp8_records.specs.declared.Parser.{Parser}
use Rattle.vp8_records.specs.Start.{blank}
use Rattle.rfc6386.specs.Bytes.{le2, le3}
use Rattle.rfc6386.specs.Frame.{Chunk, Opened, shut, opened, tagged, key_chunk, chunk, Body, beyond, empty, read, body, follows, inside, decode}
use Rattle.rfc6386.specs.Call.{header_of, answer, finish, call}
use Rattle.rfc6386.specs.Peek.{Peek, barred, seen, looked, peek, Early, look_from}
use Rattle.rfc6386.proofs.Accepts.{chunk_each, accepted}

-- a look sees ten bytes
pub sees_ten : (f : List ℕ) → peek (take 10 f) ≡ peek f
unfolding peek
sees_ten f = ap (λ (l : List ℕ). looked (chunk l)) (take-take 10 10 f (omega arith))

-- what is read stands within the first ten
two : (f : List ℕ) (i : ℕ) → i + 1 < 10 → le2 (take 10 f) i ≡ le2 f i
two f i h = ap₂ (λ (a b : ℕ). a + b * 256) (get_or-take 10 f i 0 (omega arith)) (get_or-take 10 f (i + 1) 0 h)

three : (f : List ℕ) (i : ℕ) → i + 2 < 10 → le3 (take 10 f) i ≡ le3 f i
three f i h = ap₂ (λ (a b : ℕ). a + b * 65536) (two f i (omega arith)) (get_or-take 10 f (i + 2) 0 h)

-- a chunk of ten bytes or more, by its tag, its code and its sizes: the length has no further say
key_long : ℕ → ℕ → ℕ → ℕ → Opened
key_long tag code w h = elim (eqb code 0x2a019d) [ false ↦ shut (InvalidStartCode code) | true ↦ opened (tagged tag true 10 w h) ]

long : ℕ → ℕ → ℕ → ℕ → Opened
long tag code w h = elim (eqb (tag % 2) 0) [ true ↦ key_long tag code w h | false ↦ opened (tagged tag false 3 0 0) ]

module _ (f : List ℕ) (g : 10 ≤ length f) where
  key_long_lem : key_chunk f ≡ key_long (le3 f 0) (le3 f 3) (le2 f 6) (le2 f 8)
  unfolding key_chunk key_long
  key_long_lem =
      rw (le-ltb (length f) 6 (omega arith), key_chunk)
      (ap (λ (x : Opened). elim (eqb (le3 f 3) 0x2a019d) [ false ↦ shut (InvalidStartCode (le3 f 3)) | true ↦ x ]) (rw (le-ltb (length f) 10 g)))

  chunk_long : length f < 2 ^ 28 → chunk f ≡ long (le3 f 0) (le3 f 3) (le2 f 6) (le2 f 8)
  unfolding chunk long
  chunk_long h =
      rw (lt-leb (2 ^ 28) (length f) h, le-ltb (length f) 3 (omega arith), chunk)
      (ap (λ (x : Opened). elim (eqb (le3 f 0 % 2) 0) [ true ↦ x | false ↦ opened (tagged (le3 f 0) false 3 0 0) ]) key_long_lem)

pub ten_chunk : (f : List ℕ) → length f < 2 ^ 28 → chunk (take 10 f) ≡ chunk f
ten_chunk f h = go (dec_le (length f) 10)
  where
    go : Dec (length f ≤ 10) → chunk (take 10 f) ≡ chunk f
    go (yes g) = ap chunk (take_all 10 f g)
    go (no g) =
        let ten : 10 ≤ length f = omega (arith, g) in
        let n : length (take 10 f) ≡ 10 = length-take-le 10 f ten in
        chunk_long (take 10 f) (omega (arith, n)) (omega (arith, n))
        ∙ (λ i. long (three f 0 (omega arith) i) (three f 3 (omega arith) i) (two f 6 (omega arith) i) (two f 8 (omega arith) i))
        ∙ sym (chunk_long f ten h)

-- so below 2^28 bytes a look goes by the call's own chunk
pub peek_chunk : (f : List ℕ) → length f < 2 ^ 28 → peek f ≡ looked (chunk f)
unfolding peek
peek_chunk f h = ap looked (ten_chunk f h)

-- of 2^28 bytes and more a call sees the length alone
pub over_long : (f : List ℕ) → 2 ^ 28 ≤ length f → chunk f ≡ shut (FrameTooLong (length f))
unfolding chunk
over_long f h = rw (le-leb (2 ^ 28) (length f) h, chunk)

-- a frame that is opened is short enough
pub opened_fits : (f : List ℕ) (k : Chunk) → opened k ≡ chunk f → length f < 2 ^ 28
opened_fits f k e = go (dec_le (2 ^ 28) (length f))
  where
    go : Dec (2 ^ 28 ≤ length f) → length f < 2 ^ 28
    go (yes h) = absurd (let d = over_long f h in grind arith)
    go (no h) = omega (arith, h)

-- a chunk that is shut, of a frame that is short enough, gives 1 or 2
abbrev Bars : Opened → Type 0
Bars (shut r) = Early r
Bars (opened k) = Unit {0}

chunk_bars : (f : List ℕ) → length f < 2 ^ 28 → Bars (chunk f)
chunk_bars f h = chunk_each Bars f (lit< tt) (lit< tt) tt tt (λ g. absurd (omega (arith, g, h)))

-- a look refuses by 1 and 2 alone, however long the frame
pub barred_early : (f : List ℕ) (r : Refusal) → peek f ≡ barred r → Early r
unfolding peek
barred_early f r = go (chunk (take 10 f)) (chunk_bars (take 10 f) (omega (arith, length-take 10 f, min-le_left 10 (length f))))
  where
    go : (x : Opened) → Bars x → looked x ≡ barred r → Early r
    go (shut q) b e = let d : q ≡ r = cc in rw (← d) b
    go (opened k) b e = absurd (grind arith)

module _ (md : Mode) (p : Parser) (f : List ℕ) where
  -- where a look refuses a frame under 2^28 bytes, so does the call, alike
  pub barred_refused : length f < 2 ^ 28 → (r : Refusal) → peek f ≡ barred r → call md p f ≡ answer (Err r) blank p
  unfolding call decode
  barred_refused h r e = go (chunk f) refl (sym (peek_chunk f h) ∙ e)
    where
      go : (x : Opened) → chunk f ≡ x → looked x ≡ barred r → finish (inside md (chunk f) f) p ≡ answer (Err r) blank p
      go (shut q) d e = let same : q ≡ r = cc in rw (d, same)
      go (opened k) d e = absurd (grind arith)

  -- what follows a chunk that is opened is refused by 3, 4 or 5, if at all
  body_late : (k : Chunk) (b : Body) (r : Refusal) → (finish (follows k b) p).outcome ≡ Err r → Early r → ⊥
  body_late k (beyond end n) r h e = omega (arith, e, ap number_of h)
  body_late k empty r h e = omega (arith, e, ap number_of h)
  body_late k (read c s none) r h e = omega (arith, e, ap number_of h)
  body_late k (read c s (some ss)) r h e = absurd (grind arith)

  -- where the call gives 1 or 2, so does a look, with the same code
  pub refused_barred : (r : Refusal) → (call md p f).outcome ≡ Err r → Early r → peek f ≡ barred r
  unfolding call decode
  refused_barred r h e = go (dec_le (2 ^ 28) (length f)) (chunk f) refl h
    where
      go : Dec (2 ^ 28 ≤ length f) → (x : Opened) → chunk f ≡ x → (finish (inside md x f) p).outcome ≡ Err r → peek f ≡ barred r
      go (no l) (shut q) d g = let same : q ≡ r = cc in peek_chunk f (omega (arith, l)) ∙ ap looked d ∙ ap barred same
      go (yes l) (shut q) d g =
          absurd (let o = over_long f l in let same : r ≡ FrameTooLong (length f) = cc in omega (arith, rw same at e))
      go l (opened k) d g = absurd (body_late k (body md k f) r g e)

  -- where the call accepts, a look has seen the header's own fields
  pub accepted_seen : (call md p f).outcome ≡ Ok tt → peek f ≡ seen (look_from (call md p f).header)
  unfolding header_of
  accepted_seen h =
      let a = accepted md p f h in
      peek_chunk f (opened_fits f a.k (sym a.opens)) ∙ ap looked a.opens ∙ sym (ap (λ (r : Parsed). seen (look_from r.header)) a.answers)

  -- where the call refuses by 3, 4 or 5, a look sees
  pub refused_seen : length f < 2 ^ 28 → 3 ≤ number_of (call md p f).outcome → (l : Look) × (peek f ≡ seen l)
  refused_seen h n = go (peek f) refl
    where
      go : (x : Peek) → peek f ≡ x → (l : Look) × (peek f ≡ seen l)
      go (seen l) e = (l, e)
      go (barred r) e =
          absurd (omega (arith, n, barred_early f r e, ap (λ (a : Parsed). number_of a.outcome) (barred_refused h r e)))
