-- The lesser of two numbers, and what the first has above the second: linear arithmetic. A header's are those of the state after its bools.
use Prim.Native.Nat.{ℕ, ◌-◌, min, ◌≤◌}
use native.Mathlib.Omega.{arith}
use mathlib.Core.Logic.{◌⊎◌, inl, inr}
use mathlib.Core.Path.{◌≡◌, refl, ap, ◌∙◌}
use mathlib.Core.Bool.{Bool, true, false}
use mathlib.Core.Option.{none, some}
use mathlib.Core.List.{List}
use lib.Dec.{leb}
use borrow.Author.Tests.{leb-true, leb-false}
use Rattle.std.specs.Prelude.{Ok}
use Rattle.vp8_records.specs.declared.Mode.{Mode}
use Rattle.vp8_records.specs.declared.Parser.{Parser}
use Rattle.rfc6386.specs.Decoder.{State, bits, position, past}
use Rattle.vp8_records.specs.Start.{blank}
use Rattle.rfc6386.specs.Frame.{snapshot, decoded, beyond, empty, read, Said, refused, follows, decode}
use Rattle.rfc6386.specs.Call.{header_of, finish, call}
use Rattle.rfc6386.specs.Reach.{Reach, readable, Reaches}
use Rattle.rfc6386.proofs.Accepts.{held_by, accepted}
use Rattle.rfc6386.proofs.Counts.{header_doublings}

pub state_reach : (l : ℕ) (s : State) → Reach l s.c (position l s) (past l s)
unfolding position past
state_reach l s = record { all = omega arith; within = omega arith; either = go (leb l s.c) refl }
  where
    go : (b : Bool) → leb l s.c ≡ b → (min s.c l ≡ l) ⊎ (s.c - l ≡ 0)
    go true e = inl (omega (arith, leb-true l s.c e))
    go false e = inr (omega (arith, leb-false l s.c e))

-- no other two numbers do
pub reach_only : (l c at q : ℕ) → Reach l c at q → (at ≡ min c l) × (q ≡ c - l)
reach_only l c at q r = go r.either
  where
    go : (at ≡ l) ⊎ (q ≡ 0) → (at ≡ min c l) × (q ≡ c - l)
    go (inl e) = (omega (arith, e, r.all), omega (arith, e, r.all))
    go (inr e) = (omega (arith, e, r.all, r.within), omega (arith, e, r.all, r.within))

module _ (md : Mode) (p : Parser) (f : List ℕ) (h : (call md p f).outcome ≡ Ok tt) where
  -- the numbers of an accepted frame's header
  pub accepted_reach : Reaches md (call md p f).header f
  unfolding header_of snapshot
  accepted_reach =
      let a = accepted md p f h in
      let bytes : List ℕ = held_by md a.k f in
      let s : State = (decoded md a.k.key bytes).then in
      rw a.answers (rw (← a.reading.seen) (state_reach (bits bytes) s))

  -- at most so many bits are made up
  pub past_most : (call md p f).header.past ≤ 70861
  past_most =
      let x = (call md p f).header in
      let r = accepted_reach in
      omega (arith, r.all, header_doublings md x.key_frame (readable md x f))

-- of every call, refused ones too, whose header is blank
pub call_either : (md : Mode) (p : Parser) (f : List ℕ)
    → ((call md p f).header.header_size ≡ bits (readable md (call md p f).header f)) ⊎ ((call md p f).header.past ≡ 0)
unfolding call blank
call_either md p f = go (decode md f) refl
  where
    none_past : (s : Said) → decode md f ≡ s → (finish s p).header.past ≡ 0 → (call md p f).header.past ≡ 0
    none_past s e h = ap (λ (x : Said). (finish x p).header.past) e ∙ h

    go : (s : Said) → decode md f ≡ s
        → ((call md p f).header.header_size ≡ bits (readable md (call md p f).header f)) ⊎ ((call md p f).header.past ≡ 0)
    go (refused o) e = inr (none_past _ e refl)
    go (follows k (beyond end n)) e = inr (none_past _ e refl)
    go (follows k empty) e = inr (none_past _ e refl)
    go (follows k (read c s none)) e = inr (none_past _ e refl)
    go (follows k (read c s (some ss))) e = (accepted_reach md p f (ap (λ (x : Said). (finish x p).outcome) e)).either
