-- Demand 3 over a recording: what `play_in` leaves, in terms of the frames that the file has. By its contract, the walk's frames are the
-- file's, so the laws of any calls hold of it; there is no premise on the record that is passed in.
use Prim.Native.Nat.{ℕ}
use mathlib.Core.Path.{◌≡◌, sym, ap, ◌∙◌}
use mathlib.Core.Bool.{true, false}
use mathlib.Core.List.{List, ◌∷◌, ◌++◌, map, map-append}
use lib.ListN.{take}
use lib.Seq.{take_all}
use mir.Val.{Val}
use denote.Laws.{Is}
use Rattle.vp8_records.specs.declared.Mode.{Mode}
use Rattle.vp8_records.specs.declared.Parser.{Parser}
use Rattle.vp8_records.specs.Start.{fresh}
use Rattle.vp8_records.specs.contracts.Parser as Held
use Rattle.rfc6386.specs.Decoder.{pick}
use Rattle.rfc6386.specs.Runs.{or}
use Rattle.rfc6386.specs.Call.{Asked, after}
use Rattle.rfc6386_history.specs.History.{cutter, any_cutter, writes, since, last}
use Rattle.rfc6386_history.specs.Kept.{kept}
use Rattle.rfc6386_history.proofs.History.{cut_off_after, last_writer, last_writer_from}
use Rattle.rfc6386_history.proofs.Numbers.{held_only}
use Rattle.ivf.specs.Ivf.{headed, Recording}
use Rattle.ivf.specs.Walk.{walked, bytes_of}
use Rattle.ivf.specs.Listed.{room}
use Rattle.std.proofs.Common.{Err}
use Rattle.ivf.specs.declared.WalkRefusal.TheVariants.{ListFull}
use Rattle.ivf.proofs.Recordings.{walked_frames, enough}
use Rattle.ivf.proofs.Fills.{lists_only}
use Rattle.vp8_recording.specs.declared.Played.{Played}
use Rattle.vp8_recording.specs.Plays.{asks, all_in, Plays}

-- two answers over the same record, file and lists are one
pub plays_only : {md : Mode} {p : Parser} {f : List ℕ} {r r' : Played} {os os' os'' ls ls' ls'' : List ℕ}
    → Plays md p f r os os' ls ls' → Plays md p f r' os os'' ls ls'' → (r ≡ r') × (os' ≡ os'') × (ls' ≡ ls'')
plays_only a b =
    let same = lists_only a.listed b.listed in
    ((λ i. record { walked = same.0 i; parser = (a.parser ∙ sym b.parser) i }), same.1, same.2)

-- a file without the header of a recording leaves the record as it was
pub plays_nothing : {md : Mode} {p : Parser} {f : List ℕ} {r : Played} {os os' ls ls' : List ℕ}
    → Plays md p f r os os' ls ls' → headed f ≡ false → r.parser ≡ p
unfolding walked bytes_of after
plays_nothing a e = rw e at a.parser

module _ {md : Mode} {p : Parser} {f rest : List ℕ} {fs : List (List ℕ)} {r : Played} {os os' ls ls' : List ℕ}
    (a : Plays md p f r os os' ls ls') (h : Recording f fs rest) where
  -- the calls that the file's frames make, as far as there is room in the lists
  abbrev xs : List Asked
  xs = all_in md (take (room os ls) fs)

  -- the record after the file's frames
  pub plays_frames : r.parser ≡ after p xs
  plays_frames = a.parser ∙ ap (λ (l : List (List ℕ)). after p (all_in md l)) (walked_frames h (room os ls))

  -- where the lists had room, after all of them
  pub plays_all : (r.walked.ended ≡ Err ListFull → ⊥) → r.parser ≡ after p (all_in md fs)
  plays_all e =
      plays_frames ∙ ap (λ (l : List (List ℕ)). after p (all_in md l))
      (take_all (room os ls) fs (enough h (room os ls) (λ z. e (a.listed.ended ∙ z))))

  -- the cut: what stands in the file before a cutter has no say, and neither has the record that was passed in
  pub plays_cut : (us : List (List ℕ)) (k : List ℕ) (vs : List (List ℕ)) → take (room os ls) fs ≡ us ++ k ∷ vs → cutter k ≡ true
      → r.parser ≡ after fresh (all_in md (k ∷ vs))
  plays_cut us k vs e c =
      plays_frames ∙ ap (λ (l : List (List ℕ)). after p (all_in md l)) e
      ∙ ap (λ (l : List Asked). after p l) (map-append (asks md) us (k ∷ vs))
      ∙ cut_off_after p (all_in md us) (asks md k) (all_in md vs) c

  -- each of the 1,126 numbers is the one last written since the latest frame of the file that cuts off the past, else that of the parser
  -- it began with
  pub plays_kept : (i : ℕ) → kept r.parser i ≡ or (last (map (λ x. writes x i) (since xs))) (kept (pick (any_cutter xs) fresh p) i)
  plays_kept i = ap (λ (z : Parser). kept z i) plays_frames ∙ last_writer_from p xs i a.sized

-- else its starting value, if that parser was fresh
pub plays_from_fresh : {md : Mode} {f rest : List ℕ} {fs : List (List ℕ)} {r : Played} {os os' ls ls' : List ℕ}
    → Plays md fresh f r os os' ls ls' → Recording f fs rest → (i : ℕ)
    → kept r.parser i ≡ or (last (map (λ x. writes x i) (since (all_in md (take (room os ls) fs))))) (kept fresh i)
plays_from_fresh {md} {fs = fs} {os = os} {ls = ls} a h i =
    ap (λ (z : Parser). kept z i) (plays_frames a h) ∙ last_writer (all_in md (take (room os ls) fs)) i

-- and of all records that code can hold no other has these numbers
pub no_other : {md : Mode} {f rest : List ℕ} {fs : List (List ℕ)} {r : Played} {os os' ls ls' : List ℕ}
    → Plays md fresh f r os os' ls ls' → Recording f fs rest → (q : Parser) (vs : List Val) → Is Held.the_row q vs
    → ((i : ℕ) → kept q i ≡ or (last (map (λ x. writes x i) (since (all_in md (take (room os ls) fs))))) (kept fresh i)) → q ≡ r.parser
no_other {md} {fs = fs} {os = os} {ls = ls} a h q vs held e =
    held_only q vs held (all_in md (take (room os ls) fs)) e ∙ sym (plays_frames a h)
