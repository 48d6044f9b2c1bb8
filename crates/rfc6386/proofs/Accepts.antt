-- What an accepted call was made of: the definition's tests taken apart, once. By cases on each test.
use Prim.Native.Nat.{ℕ, ◌+◌, ◌%◌, ◌^◌, ◌≤◌}
use native.Mathlib.Omega.{arith}
use mathlib.Core.Path.{◌≡◌, refl, ap}
use mathlib.Core.Bool.{Bool, true, false}
use mathlib.Core.Option.{Option, none, some}
use mathlib.Core.List.{List, [], ◌∷◌}
use lib.Dec.{leb, ltb, eqb}
use lib.ListN.{length, drop}
use borrow.Author.Tests.{leb-true, ltb-false}
use Rattle.std.specs.Prelude.{Ok}
use Rattle.vp8_records.specs.declared.Mode.{Mode}
use Rattle.vp8_records.specs.declared.Parser.{Parser}
use Rattle.vp8_records.specs.declared.Refusal.TheVariants.{ChunkTooShort, InvalidStartCode, FrameTooLong}
use Rattle.rfc6386.specs.Bytes.{le3}
use Rattle.rfc6386.specs.Decoder.{bits}
use Rattle.rfc6386.specs.Coded.{Coded}
use Rattle.rfc6386.specs.Frame.{Chunk, tagged, keyed, Opened, shut, opened, key_chunk, chunk, Snapshot, snapshot, sizes, held, decoded}
use Rattle.rfc6386.specs.Frame.{Body, beyond, empty, read, headed, body, follows, inside, decode}
use Rattle.rfc6386.specs.Call.{probs_of, probs_over, shown, apply, header_of, base, answer, finish, call}

-- what holds of both answers of a test holds of the one it picks
choose : {A : Type 0} (P : A → Type 0) (b : Bool) (x y : A) → P x → P y → P (elim b [ true ↦ x | false ↦ y ])
choose P true x y h g = h
choose P false x y h g = g

-- the same, where the first answer may use that the test is true
decide : {A : Type 0} (P : A → Type 0) (b : Bool) (x y : A) → (b ≡ true → P x) → P y → P (elim b [ true ↦ x | false ↦ y ])
decide P true x y h g = h refl
decide P false x y h g = g

-- what holds of each answer that a chunk can have holds of the chunk: 6, 1, 2, a key frame's, another's
module _ (P : Opened → Type 0) (f : List ℕ) (short : P (shut ChunkTooShort)) (code : P (shut (InvalidStartCode (le3 f 3))))
    (key : P (opened (keyed f))) (inter : P (opened (tagged (le3 f 0) false 3 0 0))) where
  key_each : P (key_chunk f)
  unfolding key_chunk
  key_each = choose P (ltb (length f) 6) _ _ short (choose P (eqb (le3 f 3) 0x2a019d) _ _ (choose P (ltb (length f) 10) _ _ short key) code)

  pub chunk_each : (2 ^ 28 ≤ length f → P (shut (FrameTooLong (length f)))) → P (chunk f)
  unfolding chunk
  chunk_each long =
      decide P (leb (2 ^ 28) (length f)) _ _ (λ e. long (leb-true _ _ e))
      (choose P (ltb (length f) 3) _ _ short (choose P (eqb (le3 f 0 % 2) 0) _ _ key_each inter))

-- the bytes that the decoder runs over
abbrev pub held_by : Mode → Chunk → List ℕ → List ℕ
held_by md k f = held md k.first (drop k.size f)

-- a header that was read to its end
pub record Reading (md : Mode) (k : Chunk) (f : List ℕ) (c : Coded) (s : Snapshot) (ss : Option (List ℕ)) : Type 0 where
  pub fits : k.size + k.first ≤ length f
  pub coded : (decoded md k.key (held_by md k f)).got ≡ c
  pub seen : snapshot (bits (held_by md k f)) (decoded md k.key (held_by md k f)).then ≡ s
  pub parts : sizes (2 ^ c.log2parts) (drop k.size f) k.first ≡ ss

body_read : (md : Mode) (k : Chunk) (f : List ℕ) (c : Coded) (s : Snapshot) (ss : Option (List ℕ))
    → body md k f ≡ read c s ss → Reading md k f c s ss
unfolding body headed
body_read md k f c s ss e = go (ltb (length f) (k.size + k.first)) refl (held_by md k f) refl e
  where
    from : (b : Bool) (a : List ℕ) → Body
    from b a = elim b [
      | true ↦ beyond (k.size + k.first) (length f)
      | false ↦ elim a [ [] ↦ empty | x ∷ xs ↦ headed k (drop k.size f) (x ∷ xs) (decoded md k.key (x ∷ xs)) ]
    ]

    go : (b : Bool) → ltb (length f) (k.size + k.first) ≡ b → (a : List ℕ) → held_by md k f ≡ a → from b a ≡ read c s ss
        → Reading md k f c s ss
    go true h a g e = absurd (grind arith)
    go false h [] g e = absurd (grind arith)
    go false h (x ∷ xs) g e =
        let o = decoded md k.key (x ∷ xs) in
        let coded : o.got ≡ c = cc in
        let seen : snapshot (bits (x ∷ xs)) o.then ≡ s = cc in
        let parts : sizes (2 ^ o.got.log2parts) (drop k.size f) k.first ≡ ss = cc in
        record {
          fits = ltb-false _ _ h;
          coded = rw g coded;
          seen = rw g seen;
          parts = rw (← coded) parts;
        }

-- an accepted call: what the frame said, and the answer that this makes
pub record Accepting (md : Mode) (p : Parser) (f : List ℕ) : Type 0 where
  pub k : Chunk
  pub c : Coded
  pub s : Snapshot
  pub ss : List ℕ
  pub opens : chunk f ≡ opened k
  pub reading : Reading md k f c s (some ss)
  pub answers : call md p f ≡ answer (Ok tt) (header_of k c s ss (shown k.key (probs_over c (probs_of (base k p))))) (apply c (base k p))

accepts_body : (md : Mode) (p : Parser) (f : List ℕ) (k : Chunk) → chunk f ≡ opened k → call md p f ≡ finish (follows k (body md k f)) p
    → (finish (follows k (body md k f)) p).outcome ≡ Ok tt → Accepting md p f
accepts_body md p f k o q = go (body md k f) refl q
  where
    go : (b : Body) → body md k f ≡ b → call md p f ≡ finish (follows k b) p → (finish (follows k b) p).outcome ≡ Ok tt → Accepting md p f
    go (beyond x y) e q h = absurd (grind arith)
    go empty e q h = absurd (grind arith)
    go (read c s none) e q h = absurd (grind arith)
    go (read c s (some ss)) e q h =
        record { k = k; c = c; s = s; ss = ss; opens = o; reading = body_read md k f c s (some ss) e; answers = q }

pub accepted : (md : Mode) (p : Parser) (f : List ℕ) → (call md p f).outcome ≡ Ok tt → Accepting md p f
unfolding call decode
accepted md p f h = go (chunk f) refl h
  where
    go : (x : Opened) → chunk f ≡ x → (finish (inside md x f) p).outcome ≡ Ok tt → Accepting md p f
    go (shut r) e h = absurd (grind arith)
    go (opened k) e h = accepts_body md p f k e (ap (λ (x : Opened). finish (inside md x f) p) e) h
