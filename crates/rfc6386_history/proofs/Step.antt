-- One call: a cutter forgets what was kept, and any frame writes what the rules say (`writes`) over what it started from. By cases
-- on the outcome, with the refusal table.
use Prim.Native.Nat.{ℕ, zero-le, ◌^◌, ◌≤◌, ◌<◌}
use native.Mathlib.Omega.{arith}
use mathlib.Core.Path.{◌≡◌, refl, sym, ap, ◌∙◌}
use mathlib.Core.Bool.{Bool, true, false, false≢true, not, ◌&&◌, ◌||◌, and-false}
use mathlib.Core.Option.{Option}
use mathlib.Core.List.{List, []}
use lib.Dec.{ltb, lit≤}
use lib.IntN.{ℤ, pos}
use lib.ListN.{length, get_or}
use borrow.Author.Tests.{ltb-true, lt-ltb}
use Rattle.std.specs.Prelude.{Ok, Err}
use Rattle.vp8_records.specs.declared.Mode.{Mode}
use Rattle.vp8_records.specs.declared.Parser.{Parser}
use Rattle.vp8_records.specs.Outcome.{Outcome}
use Rattle.vp8_records.specs.declared.Refusal.TheVariants.{ChunkTooShort, InvalidStartCode, InvalidPartitionSize, EmptyArea, EndOfHeader, FrameTooLong}
use Rattle.vp8_records.specs.Layout.{joined}
use Rattle.vp8_records.specs.Start.{fresh}
use Rattle.rfc6386.specs.Decoder.{pick}
use Rattle.rfc6386.specs.Runs.{or, over}
use Rattle.rfc6386.specs.Coded.{Coded}
use Rattle.rfc6386.specs.Frame.{Chunk, keyed, Opened, shut, opened, chunk, Body, beyond, empty, read, body, follows, inside, decode}
use Rattle.rfc6386.specs.Call.{Asked, apply, cleared, reset, finish, call, called}
use Rattle.rfc6386.specs.Peek.{looked, peek, key_seen}
use Rattle.rfc6386.proofs.Peek.{peek_chunk}
use Rattle.rfc6386_history.specs.Refusals.{key_of, right_code, too_long, opens, coded, outcome_of, base_of, left}
use Rattle.rfc6386_history.specs.Kept.{numbers, kept}
use Rattle.vp8_records.specs.Shape.{Sized}
use Rattle.rfc6386_history.specs.History.{cutter, wrote, writes}
use Rattle.rfc6386_history.proofs.Runs.{get_d_over}
use Rattle.rfc6386_history.proofs.Writes.{applied, sized_fresh, sized_apply, sized_cleared}
use Rattle.rfc6386_history.proofs.Refusals.{Opens, chunk_opens, resets, resets_opened, left_is}

-- a cutter is a key frame that 6, 1 and 2 do not refuse
pub cutter_opens : (f : List ℕ) → cutter f ≡ opens f && key_of f
cutter_opens f =
    go (too_long f) (ltb (length f) 3) (key_of f) (ltb (length f) 6) (right_code f) (ltb (length f) 10)
    (fewer 3 (lit≤ tt)) (fewer 6 (lit≤ tt))
  where
    fewer : (m : ℕ) → m ≤ 10 → ltb (length f) m ≡ true → ltb (length f) 10 ≡ true
    fewer m n h = lt-ltb (length f) 10 (omega (arith, ltb-true (length f) m h))

    go : (a b key d e g : Bool) → (b ≡ true → g ≡ true) → (d ≡ true → g ≡ true)
        → (key && not a && not g && e) ≡ (not (a || (b || key && (d || e && g)) || key && not d && not e) && key)
    go a b false d e g m n = sym (and-false (not (a || (b || false) || false)))
    go true b true d e g m n = refl
    go false true true d e true m n = refl
    go false true true d e false m n = absurd (false≢true (m refl))
    go false false true true e true m n = refl
    go false false true true e false m n = absurd (false≢true (n refl))
    go false false true false true true m n = refl
    go false false true false true false m n = refl
    go false false true false false true m n = refl
    go false false true false false false m n = refl

-- so under 2^28 bytes a look at the first ten tells a cutter
pub cutter_seen : (f : List ℕ) → length f < 2 ^ 28 → cutter f ≡ key_seen (peek f)
cutter_seen f h = cutter_opens f ∙ go (chunk f) (opens f) (chunk_opens f) ∙ ap key_seen (sym (peek_chunk f h))
  where
    go : (x : Opened) (o : Bool) → Opens x (key_of f) o → o && key_of f ≡ key_seen (looked x)
    go (shut u) b e = rw e
    go (opened k) b e = rw e.1 (sym e.0)

pub forgets_body : (p q : Parser) (k : Chunk) (b : Body) → k.key ≡ true → finish (follows k b) p ≡ finish (follows k b) q
forgets_body p q k (beyond end n) h = rw h
forgets_body p q k empty h = rw h
forgets_body p q k (read c s ss) h = rw h

-- a cutter's answer and state are the same, whatever was kept
pub forgets : (p q : Parser) (x : Asked) → cutter x.frame ≡ true → called p x ≡ called q x
unfolding call decode
forgets p q x h = go (chunk f) (opens f) (chunk_opens f) (sym (cutter_opens f) ∙ h)
  where
    f : List ℕ
    f = x.frame

    go : (y : Opened) (o : Bool) → Opens y (key_of f) o → o && key_of f ≡ true
        → finish (inside x.mode y f) p ≡ finish (inside x.mode y f) q
    go (shut o) b e h = absurd (false≢true (rw e at h))
    go (opened k) b e h = forgets_body p q k (body x.mode k f) (e.0 ∙ (rw e.1 at h))

-- what is left starts from the fresh parser just after a cutter
cutter_resets : (md : Mode) (f : List ℕ) → cutter f ≡ resets (outcome_of md f) (key_of f)
cutter_resets md f = cutter_opens f ∙ resets_opened md f

-- what a reset has, and a clearing and a header's writes keep, a call keeps
module _
    (P : Parser → Type 0) (of-reset : (k : Chunk) → P (reset k)) (of-cleared : (p : Parser) → P p → P (cleared p))
    (of-applied : (x : Asked) (p : Parser) → P p → P (apply (coded x.mode (key_of x.frame) x.frame) p)) where
  pub base_keeps : (key : Bool) (f : List ℕ) (p : Parser) → P p → P (base_of key f p)
  base_keeps true f p h = of-reset (keyed f)
  base_keeps false f p h = h

  left_keeps : (x : Asked) (o : Outcome) (p : Parser) → P p
      → P (left o (base_of (key_of x.frame) x.frame) (coded x.mode (key_of x.frame) x.frame) p)
  left_keeps x (Err (FrameTooLong n)) p h = h
  left_keeps x (Err ChunkTooShort) p h = h
  left_keeps x (Err (InvalidStartCode code)) p h = h
  left_keeps x (Err (InvalidPartitionSize end n)) p h = base_keeps (key_of x.frame) x.frame p h
  left_keeps x (Err EmptyArea) p h = base_keeps (key_of x.frame) x.frame (cleared p) (of-cleared p h)
  left_keeps x (Err EndOfHeader) p h = of-applied x _ (base_keeps (key_of x.frame) x.frame p h)
  left_keeps x (Ok u) p h = of-applied x _ (base_keeps (key_of x.frame) x.frame p h)

  pub call_keeps : (p : Parser) (x : Asked) → P p → P (called p x).parser
  call_keeps p x h = rw (left_is x.mode p x.frame) (left_keeps x (outcome_of x.mode x.frame) p h)

of_coded : (x : Asked) (p : Parser) → Sized p → Sized (apply (coded x.mode (key_of x.frame) x.frame) p)
of_coded x = sized_apply (coded x.mode (key_of x.frame) x.frame)

-- a call keeps the shape
pub sized_call : (p : Parser) (x : Asked) → Sized p → Sized (called p x).parser
sized_call = call_keeps Sized (λ k. sized_fresh) sized_cleared of_coded

sized_base : (key : Bool) (f : List ℕ) (p : Parser) → Sized p → Sized (base_of key f p)
sized_base = base_keeps Sized (λ k. sized_fresh) sized_cleared of_coded

-- us, at most as many as the numbers of p, written over them give those of q
record Moves (us : List (Option ℤ)) (p q : Parser) : Type 0 where
  fits : length us ≤ length (numbers p)
  is : over us (numbers p) ≡ numbers q

moves_none : (p : Parser) → Moves [] p p
unfolding over
moves_none p = record { fits = zero-le; is = refl }

moves_empty : (key : Bool) (f : List ℕ) (c : Coded) (p : Parser)
    → Moves (wrote (Err EmptyArea) key c) (pick key fresh p) (base_of key f (cleared p))
unfolding over numbers joined cleared
moves_empty true f c p = moves_none fresh
moves_empty false f c p = record { fits = omega arith; is = refl }

moves_all : (key : Bool) (f : List ℕ) (c : Coded) (p : Parser) → Sized p
    → Moves (wrote (Ok tt) key c) (pick key fresh p) (apply c (base_of key f p))
moves_all key f c p s =
    let w = applied c (base_of key f p) (sized_base key f p s) in
    record { fits = omega (arith, w.same); is = w.is }

moves : (o : Outcome) (key : Bool) (f : List ℕ) (c : Coded) (p : Parser) → Sized p
    → Moves (wrote o key c) (pick (resets o key) fresh p) (left o (base_of key f) c p)
moves (Err (FrameTooLong n)) key f c p s = moves_none p
moves (Err ChunkTooShort) key f c p s = moves_none p
moves (Err (InvalidStartCode code)) key f c p s = moves_none p
moves (Err (InvalidPartitionSize end n)) key f c p s = moves_none (base_of key f p)
moves (Err EmptyArea) key f c p s = moves_empty key f c p
moves (Err EndOfHeader) key f c p s = moves_all key f c p s
moves (Ok u) key f c p s = moves_all key f c p s

-- a number after a call: what the frame writes to it, or else what the frame started from
pub writes_one : (p : Parser) (x : Asked) (i : ℕ) → Sized p
    → kept (called p x).parser i ≡ or (writes x i) (kept (pick (cutter x.frame) fresh p) i)
unfolding kept writes
writes_one p x i s =
    let md = x.mode in
    let f = x.frame in
    let us = wrote (outcome_of md f) (key_of f) (coded md (key_of f) f) in
    let from = pick (resets (outcome_of md f) (key_of f)) fresh p in
    let m = moves (outcome_of md f) (key_of f) f (coded md (key_of f) f) p s in
    rw (left_is md p f, cutter_resets md f)
    (ap (λ (ns : List ℤ). get_or ns i (pos 0)) (sym m.is) ∙ get_d_over us (numbers from) i (pos 0) m.fits)
