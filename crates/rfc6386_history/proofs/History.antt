-- Demand 3. A cutter's answer does not depend on what was kept, so a run of calls splits there; and a kept number is what the last frame
-- that wrote it since then wrote. Both by induction over the calls, by cases on whether a later one is a cutter.
use Prim.Native.Nat.{ℕ}
use mathlib.Core.Path.{◌≡◌, refl, sym, ap, ap₂, ◌∙◌}
use mathlib.Core.Bool.{Bool, true, false, ◌||◌, or-true, or-false, true≢false, false≢true}
use mathlib.Core.List.{List, [], ◌∷◌, ◌++◌, map}
use lib.IntN.{ℤ}
use Rattle.vp8_records.specs.declared.Parser.{Parser}
use Rattle.vp8_records.specs.declared.Parsed.{Parsed}
use Rattle.vp8_records.specs.Start.{fresh}
use Rattle.rfc6386.specs.Decoder.{pick}
use Rattle.rfc6386.specs.Runs.{or}
use Rattle.rfc6386.specs.Call.{Asked, called, calls, after}
use Rattle.rfc6386_history.specs.Kept.{kept}
use Rattle.vp8_records.specs.Shape.{Sized}
use Rattle.rfc6386_history.specs.History.{cutter, any_cutter, since, before, Latest, writes, last}
use Rattle.rfc6386_history.specs.Answered.{shows}
use Rattle.rfc6386_history.proofs.Runs.{or_last}
use Rattle.rfc6386_history.proofs.Writes.{sized_fresh}
use Rattle.rfc6386_history.proofs.Step.{forgets, sized_call, writes_one}

-- calls in a row
pub after_append : (p : Parser) (xs ys : List Asked) → after p (xs ++ ys) ≡ after (after p xs) ys
unfolding after
after_append p [] ys = refl
after_append p (x ∷ xs) ys = after_append (called p x).parser xs ys

pub calls_append : (p : Parser) (xs ys : List Asked) → calls p (xs ++ ys) ≡ calls p xs ++ calls (after p xs) ys
unfolding calls after
calls_append p [] ys = refl
calls_append p (x ∷ xs) ys = ap (λ (l : List Parsed). called p x ∷ l) (calls_append (called p x).parser xs ys)

-- from a cutter on, all answers and states are those of a fresh parser
pub cut_off : (p : Parser) (xs : List Asked) (k : Asked) (ys : List Asked) → cutter k.frame ≡ true
    → calls p (xs ++ k ∷ ys) ≡ calls p xs ++ calls fresh (k ∷ ys)
unfolding calls
cut_off p [] k ys h = ap (λ (a : Parsed). a ∷ calls a.parser ys) (forgets p fresh k h)
cut_off p (x ∷ xs) k ys h = ap (λ r. called p x ∷ r) (cut_off (called p x).parser xs k ys h)

-- the state after them is that of the last
pub cut_off_after : (p : Parser) (xs : List Asked) (k : Asked) (ys : List Asked) → cutter k.frame ≡ true
    → after p (xs ++ k ∷ ys) ≡ after fresh (k ∷ ys)
unfolding after
cut_off_after p [] k ys h = ap (λ (a : Parsed). after a.parser ys) (forgets p fresh k h)
cut_off_after p (x ∷ xs) k ys h = cut_off_after (called p x).parser xs k ys h

-- with no cutter, all calls count
pub since_all : (xs : List Asked) → any_cutter xs ≡ false → since xs ≡ xs
unfolding since any_cutter
since_all [] h = refl
since_all (x ∷ xs) h = go (any_cutter xs) h
  where
    go : (b : Bool) → cutter x.frame || b ≡ false → pick b (since xs) (x ∷ xs) ≡ x ∷ xs
    go true e = absurd (true≢false (rw or-true at e))
    go false e = refl

any_cutter_lem : (xs : List Asked) (k : Asked) (ys : List Asked) → cutter k.frame ≡ true → any_cutter (xs ++ k ∷ ys) ≡ true
unfolding any_cutter
any_cutter_lem [] k ys h = rw h
any_cutter_lem (x ∷ xs) k ys h = rw (any_cutter_lem xs k ys h, or-true)

-- otherwise the latest cutter does, and the calls after it
pub since_cutter : (xs : List Asked) (k : Asked) (ys : List Asked) → cutter k.frame ≡ true → any_cutter ys ≡ false
    → since (xs ++ k ∷ ys) ≡ k ∷ ys
unfolding since
since_cutter [] k ys h e = rw e
since_cutter (x ∷ xs) k ys h e = rw (any_cutter_lem xs k ys h) (since_cutter xs k ys h e)

-- the latest cutter splits the calls, and nothing is lost
pub before_since : (xs : List Asked) → before xs ++ since xs ≡ xs
unfolding before since
before_since [] = refl
before_since (x ∷ xs) = go (any_cutter xs) (before_since xs)
  where
    go : (b : Bool) → before xs ++ since xs ≡ xs → pick b (x ∷ before xs) [] ++ pick b (since xs) (x ∷ xs) ≡ x ∷ xs
    go true ih = ap (λ (l : List Asked). x ∷ l) ih
    go false ih = refl

-- what follows the split begins with the latest cutter
pub since_latest : (xs : List Asked) → any_cutter xs ≡ true → Latest (since xs)
unfolding since any_cutter
since_latest [] h = absurd (false≢true h)
since_latest (x ∷ xs) h = go (any_cutter xs) refl h (since_latest xs)
  where
    go : (b : Bool) → any_cutter xs ≡ b → cutter x.frame || b ≡ true → (any_cutter xs ≡ true → Latest (since xs))
        → Latest (pick b (since xs) (x ∷ xs))
    go true e h ih = ih e
    go false e h ih = (rw or-false at h, e)

-- whatever is had of each call, if a cutter's owes nothing to what was kept: that of the calls before the latest cutter, then that of a
-- fresh parser which is fed only the calls since; of all calls on the parser where there is no cutter
module _ {A : Type 0} (g : Parser → Asked → A) (same : (p q : Parser) (x : Asked) → cutter x.frame ≡ true → g p x ≡ g q x) where
  pub shows_cut : (p : Parser) (xs : List Asked)
      → shows g p xs ≡ shows g p (before xs) ++ shows g (pick (any_cutter xs) fresh p) (since xs)
  unfolding shows before since any_cutter
  shows_cut p [] = refl
  shows_cut p (x ∷ xs) = go (any_cutter xs) (cutter x.frame) refl (shows_cut (called p x).parser xs)
    where
      q : Parser
      q = (called p x).parser

      go : (b c : Bool) → cutter x.frame ≡ c → shows g q xs ≡ shows g q (before xs) ++ shows g (pick b fresh q) (since xs)
          → g p x ∷ shows g q xs
          ≡ shows g p (pick b (x ∷ before xs) []) ++ shows g (pick (c || b) fresh p) (pick b (since xs) (x ∷ xs))
      go true true e ih = ap (λ (l : List A). g p x ∷ l) ih
      go true false e ih = ap (λ (l : List A). g p x ∷ l) ih
      go false true e ih =
          ap (λ (a : A). a ∷ shows g q xs) (same p fresh x e)
          ∙ ap (λ (a : Parsed). g fresh x ∷ shows g a.parser xs) (forgets p fresh x e)
      go false false e ih = refl

-- the answers and states of calls are what `called` shows
pub calls_are : (p : Parser) (xs : List Asked) → calls p xs ≡ shows called p xs
unfolding calls shows
calls_are p [] = refl
calls_are p (x ∷ xs) = ap (λ (l : List Parsed). called p x ∷ l) (calls_are (called p x).parser xs)

-- demand 3's first sentence, for any calls: the answers and states before the latest cutter, then those of a fresh parser fed only the
-- calls since it
pub calls_cut : (p : Parser) (xs : List Asked) → calls p xs ≡ calls p (before xs) ++ calls (pick (any_cutter xs) fresh p) (since xs)
calls_cut p xs =
    calls_are p xs ∙ shows_cut called forgets p xs
    ∙ ap₂ ◌++◌ (sym (calls_are p (before xs))) (sym (calls_are (pick (any_cutter xs) fresh p) (since xs)))

-- from any state of the right shape
pub last_writer_from : (p : Parser) (xs : List Asked) (i : ℕ) → Sized p
    → kept (after p xs) i ≡ or (last (map (λ f. writes f i) (since xs))) (kept (pick (any_cutter xs) fresh p) i)
unfolding after since any_cutter last
last_writer_from p [] i s = refl
last_writer_from p (x ∷ xs) i s = go (any_cutter xs) refl (last_writer_from (called p x).parser xs i (sized_call p x s))
  where
    q : Parser
    q = (called p x).parser

    go : (b : Bool) → any_cutter xs ≡ b
        → kept (after q xs) i ≡ or (last (map (λ f. writes f i) (since xs))) (kept (pick (any_cutter xs) fresh q) i)
        → kept (after q xs) i
        ≡ or (last (map (λ f. writes f i) (pick (any_cutter xs) (since xs) (x ∷ xs))))
        (kept (pick (cutter x.frame || any_cutter xs) fresh p) i)
    go true e ih = rw (e, or-true) (rw e at ih)
    go false e ih =
        rw (e, or-false)
        ((rw (e, since_all xs e) at ih)
        ∙ ap (λ (z : ℤ). or (last (map (λ f. writes f i) xs)) z) (writes_one p x i s)
        ∙ sym (or_last (writes x i) (map (λ f. writes f i) xs) _))

fresh_either : (b : Bool) → pick b fresh fresh ≡ fresh
fresh_either true = refl
fresh_either false = refl

-- from a fresh parser: the last writer since the latest cutter, or else the starting value
pub last_writer : (xs : List Asked) (i : ℕ)
    → kept (after fresh xs) i ≡ or (last (map (λ f. writes f i) (since xs))) (kept fresh i)
last_writer xs i =
    last_writer_from fresh xs i sized_fresh
    ∙ ap (λ (z : Parser). or (last (map (λ f. writes f i) (since xs))) (kept z i)) (fresh_either (any_cutter xs))

-- the same of a parser that was fresh at the start
pub fresh_cut : (xs : List Asked) → calls fresh xs ≡ calls fresh (before xs) ++ calls fresh (since xs)
fresh_cut xs =
    calls_cut fresh xs ∙ ap (λ (z : Parser). calls fresh (before xs) ++ calls z (since xs)) (fresh_either (any_cutter xs))
