-- Calls over a block are calls over its record, since a call leaves no fault; so what is proved of calls holds of exported ones, by
-- induction over them, and a record may be handed over between any two.
use Prim.Native.Nat.{ℕ}
use native.Mathlib.Omega.{arith}
use mathlib.Core.Path.{◌≡◌, refl, ap, ap₂, sym, ◌∙◌}
use mathlib.Core.Bool.{true, false}
use mathlib.Core.List.{List, [], ◌∷◌, ◌++◌, map}
use lib.Dec.{ltb}
use lib.ListN.{length}
use Rattle.vp8_records.specs.declared.Parser.{Parser}
use Rattle.vp8_records.specs.declared.Parsed.{Parsed}
use Rattle.vp8_records.specs.declared.Refusal.TheVariants.{ChunkTooShort, InvalidStartCode, InvalidPartitionSize, EmptyArea, EndOfHeader, FrameTooLong}
use Rattle.vp8_records.specs.Outcome.{Outcome, number_of}
use Rattle.vp8_records.specs.Start.{fresh}
use Rattle.rfc6386.specs.Decoder.{pick}
use Rattle.rfc6386.specs.Runs.{or}
use Rattle.rfc6386.specs.Call.{Asked, called, calls, after}
use Rattle.rfc6386_history.specs.Kept.{kept}
use Rattle.rfc6386_history.specs.Sound.{Sound}
use Rattle.rfc6386_history.specs.History.{cutter, any_cutter, since, writes, last}
use Rattle.rfc6386_history.specs.Answered.{Answered, ByValue}
use Rattle.rfc6386_history.proofs.Sound.{sound_call, sound_after}
use Rattle.rfc6386_history.proofs.History.{after_append, calls_append, cut_off_after, last_writer_from}
use Rattle.rfc6386_history.proofs.Answered.{parse_answers}
use Rattle.std.proofs.Common.{Result, Ok, Err}
use Rattle.vp8_state.specs.declared.BlockRefusal.{BlockRefusal}
use Rattle.vp8_state.specs.declared.BlockRefusal.TheVariants.{OtherSize, OtherHeading, Fault}
use Rattle.vp8_state.specs.Block.{block, Verdict, refusal_of, block_verdict}
use Rattle.vp8_state.specs.declared.ReadAnswer.{ReadAnswer}
use Rattle.vp8_state.specs.Handed.{or_refused, answered, read_block, write_block, state_parse}
use Rattle.vp8_state.specs.Handed.{taken, Left, left, record_of, Offer, asked, handed}
use Rattle.vp8_state.specs.Handed.{Exported, stop, own, other, the_calls, calls_answers}
use Rattle.vp8_state.proofs.Laid.{Bytes}
use Rattle.vp8_state.proofs.Blocks.{is_block, taken_sound, block_taken, record_of_lem, read_back, write_taken}

-- over the block of a record without fault
pub parse_block : (p : Parser) (x : Offer) → Sound p → state_parse (block p) x ≡ handed p (asked x)
unfolding state_parse
parse_block p x s = rw (block_taken p s, record_of_lem p s)

-- over a block that is refused
module _ (b : List ℕ) (x : Offer) (h : block_verdict b ≡ Ok tt → ⊥) where
  pub parse_refused : state_parse b x ≡ left (refusal_of (block_verdict b)) b
  unfolding state_parse
  parse_refused = go (block_verdict b) h
    where
      go : (v : Verdict) → (v ≡ Ok tt → ⊥) → taken v (handed (record_of b) (asked x)) (left (refusal_of v) b) ≡ left (refusal_of v) b
      go (Ok e) g = absurd (g refl)
      go (Err r) g = refl

-- an exported call out of its steps: the block read, the call, the block written
module _ (b : List ℕ) (x : Offer) {r : Result Parser BlockRefusal} (read : r ≡ answered (read_block b)) where
  pub steps_refused : {e : BlockRefusal} → r ≡ Err e → left (refusal_of (Err e)) b ≡ state_parse b x
  unfolding read_block state_parse
  steps_refused {e} k = go (block_verdict b) (sym k ∙ read)
    where
      go : (v : Verdict) → Err e ≡ or_refused v (taken v (record_of b) fresh)
          → left (refusal_of (Err e)) b ≡ taken v (handed (record_of b) (asked x)) (left (refusal_of v) b)
      go (Ok u) h = absurd (let z : ◌≡◌ {A = ℕ} 0 1 = cc in omega arith)
      go (Err d) h = let s : e ≡ d = cc in ap (λ (i : BlockRefusal). left (refusal_of (Err i)) b) s

  read_is : {p : Parser} → r ≡ Ok p → (block_verdict b ≡ Ok tt) × (p ≡ record_of b)
  unfolding read_block
  read_is {p} k = go (block_verdict b) (sym k ∙ read)
    where
      go : (v : Verdict) → Ok p ≡ or_refused v (taken v (record_of b) fresh) → (v ≡ Ok tt) × (p ≡ record_of b)
      go (Ok u) h = let s : p ≡ record_of b = cc in (refl, s)
      go (Err d) h = absurd (let z : ◌≡◌ {A = ℕ} 0 1 = cc in omega arith)

  pub refused_is : {e : BlockRefusal} {p : Parser} → r ≡ Err e → p ≡ fresh
      → ◌≡◌ {A = ReadAnswer} (record { verdict = Err e; parser = p }) (read_block b)
  unfolding read_block
  refused_is {e} {p} k q = go (block_verdict b) (sym k ∙ read)
    where
      go : (v : Verdict) → Err e ≡ or_refused v (taken v (record_of b) fresh)
          → ◌≡◌ {A = ReadAnswer} (record { verdict = Err e; parser = p }) (record { verdict = v; parser = taken v (record_of b) fresh })
      go (Ok u) h = absurd (let z : ◌≡◌ {A = ℕ} 0 1 = cc in omega arith)
      go (Err d) h = let s : e ≡ d = cc in λ i. record { verdict = Err (s i); parser = q i }

  pub steps_called : Bytes b → {p : Parser} → r ≡ Ok p → (y : Parsed) → y ≡ called p (asked x) → (v : Verdict) (c : List ℕ)
      → left v c ≡ write_block y.parser b → (n : ℕ) → n ≡ number_of y.outcome → left n c ≡ state_parse b x
  unfolding state_parse
  steps_called bytes i y e v c w n m =
      let t = read_is i in
      let h = t.0 in
      let k : y ≡ called (record_of b) (asked x) = e ∙ ap (λ (q : Parser). called q (asked x)) t.1 in
      let s : Sound y.parser = rw k (sound_call (record_of b) (asked x) (taken_sound b bytes h)) in
      let d : c ≡ block y.parser = ap (λ (l : Left Verdict). l.buffer) (w ∙ write_taken y.parser s b (is_block b h).size) in
      rw h
      (ap₂ {C = Left ℕ} (λ i l. left i l) m d ∙ ap (λ (q : Parsed). left (number_of q.outcome) (block q.parser)) k)

-- a refusal of the block is 13 or more, a call's is less
no_call : (v : Verdict) → (v ≡ Ok tt → ⊥) → ltb (refusal_of v) 13 ≡ false
no_call (Ok e) h = absurd (h refl)
no_call (Err OtherSize) h = refl
no_call (Err OtherHeading) h = refl
no_call (Err Fault) h = refl

a_call : (o : Outcome) → ltb (number_of o) 13 ≡ true
a_call (Ok u) = refl
a_call (Err ChunkTooShort) = refl
a_call (Err (InvalidStartCode code)) = refl
a_call (Err (InvalidPartitionSize end n)) = refl
a_call (Err EmptyArea) = refl
a_call (Err EndOfHeader) = refl
a_call (Err (FrameTooLong n)) = refl

-- the block that exported calls leave, and the answers of those that are calls
pub exported_is : (p : Parser) {b d : List ℕ} {xs : List Offer} {rs : List ℕ} → Sound p → b ≡ block p → Exported b xs rs d
    → (d ≡ block (after p (the_calls xs rs))) × (calls_answers rs ≡ map (λ a. number_of a.outcome) (calls p (the_calls xs rs)))
unfolding after calls the_calls calls_answers
exported_is p s e stop = (e, refl)
exported_is p s e (own {b} {c} {x = x} {xs} {r} {rs} h n) =
    let k : left r c ≡ handed p (asked x) = h ∙ ap (λ (l : List ℕ). state_parse l x) e ∙ parse_block p x s in
    let a = called p (asked x) in
    let m : r ≡ number_of a.outcome = ap (λ (l : Left ℕ). l.answer) k in
    let ih = exported_is a.parser (sound_call p (asked x) s) (ap (λ (l : Left ℕ). l.buffer) k) n in
    let t : ltb r 13 ≡ true = ap (λ (i : ℕ). ltb i 13) m ∙ a_call a.outcome in
    (rw t ih.0, rw t (ap₂ {C = List ℕ} (λ i is. i ∷ is) m ih.1))
exported_is p s e (other o {x = x} {r = r} g h n) =
    let ih = exported_is p s e n in
    let t : ltb r 13 ≡ false = ap (λ (l : Left ℕ). ltb l.answer 13) (h ∙ parse_refused o x g) ∙ no_call (block_verdict o) g in
    (rw t ih.0, rw t ih.1)

-- to every list of them there are answers
pub exported_runs : (b : List ℕ) (xs : List Offer) → (rs : List ℕ) × (d : List ℕ) × Exported b xs rs d
exported_runs b [] = ([], b, stop)
exported_runs b (x ∷ xs) =
    let l = state_parse b x in
    let n = exported_runs l.buffer xs in
    (l.answer ∷ n.0, n.1, own refl n.2)

-- over a block that is refused nothing is a call, and it stays as it is
pub exported_none : {b d : List ℕ} {xs : List Offer} {rs : List ℕ} → (block_verdict b ≡ Ok tt → ⊥) → Exported b xs rs d
    → (d ≡ b) × (the_calls xs rs ≡ [])
unfolding the_calls
exported_none h stop = (refl, refl)
exported_none {b} h (own {c = c} {x = x} {r = r} g n) =
    let k = g ∙ parse_refused b x h in
    let e : c ≡ b = ap (λ (l : Left ℕ). l.buffer) k in
    let t : ltb r 13 ≡ false = ap (λ (l : Left ℕ). ltb l.answer 13) k ∙ no_call (block_verdict b) h in
    let ih = exported_none (λ z. h (ap block_verdict (sym e) ∙ z)) n in
    (ih.0 ∙ e, rw t ih.1)
exported_none h (other o {x = x} {r = r} g k n) =
    let t : ltb r 13 ≡ false = ap (λ (l : Left ℕ). ltb l.answer 13) (k ∙ parse_refused o x g) ∙ no_call (block_verdict o) g in
    let ih = exported_none h n in
    (ih.0, rw t ih.1)

-- demand 3 from the record that was handed over: a cutter among the calls cuts off the past, that record too
module _ (p : Parser) (s : Sound p) {d : List ℕ} {xs : List Offer} {rs : List ℕ} (run : Exported (block p) xs rs d) where
  pub exported_cut : (us : List Asked) (k : Asked) (vs : List Asked) → the_calls xs rs ≡ us ++ k ∷ vs → cutter k.frame ≡ true
      → d ≡ block (after fresh (k ∷ vs))
  exported_cut us k vs e h =
      (exported_is p s refl run).0
      ∙ ap (λ (l : List Asked). block (after p l)) e ∙ ap block (cut_off_after p us k vs h)

  -- and each number is the last writer's since the latest cut, or else that record's
  pub exported_keeps : (i : ℕ)
      → kept (record_of d) i
      ≡ or (last (map (λ f. writes f i) (since (the_calls xs rs)))) (kept (pick (any_cutter (the_calls xs rs)) fresh p) i)
  exported_keeps i =
      let q = after p (the_calls xs rs) in
      ap (λ (l : List ℕ). kept (record_of l) i) (exported_is p s refl run).0
      ∙ ap (λ (z : Parser). kept z i) (record_of_lem q (sound_after p (the_calls xs rs) s))
      ∙ last_writer_from p (the_calls xs rs) i s.sized

-- a process that goes on with another's block is one process
pub exported_then : {b c d : List ℕ} {xs ys : List Offer} {rs ss : List ℕ} → Exported b xs rs c → Exported c ys ss d
    → Exported b (xs ++ ys) (rs ++ ss) d
exported_then stop n = n
exported_then (own h m) n = own h (exported_then m n)
exported_then (other o g h m) n = other o g h (exported_then m n)

-- one process whose calls are those of A and then those of B ends with B's block
pub exported_over : (p : Parser) {c d e : List ℕ} {xs ys zs : List Offer} {rs ss ts : List ℕ} → Sound p
    → Exported (block p) xs rs c → Exported c ys ss d → Exported (block p) zs ts e → the_calls zs ts ≡ the_calls xs rs ++ the_calls ys ss
    → e ≡ d
exported_over p {xs = xs} {ys} {zs} {rs} {ss} {ts} s a b o h =
    let x = the_calls xs rs in
    let y = the_calls ys ss in
    let k = (exported_is p s refl a).0 in
    (exported_is p s refl o).0
    ∙ ap (λ (l : List Asked). block (after p l)) h ∙ ap block (after_append p x y)
    ∙ sym (exported_is (after p x) (sound_after p x s) k b).0

-- the same of records: A calls `parse` on xs and writes its record q into a block; B reads that, r is what code answers, and calls `parse`
-- on ys. No step is refused, and the answers and the record are those of one process that is asked xs and then ys
pub handed_over : (p : Parser) {q s t : Parser} {xs ys : List Asked} {rs ss ts : List Parsed} (b d : List ℕ) (v : Verdict) (a : ReadAnswer)
    (r : Result Parser BlockRefusal)
    → Sound p → Answered Parsed ByValue p xs rs q → length b ≡ 1148 → left v d ≡ write_block q b
    → a ≡ read_block d → r ≡ answered (read_block d)
    → Answered Parsed ByValue a.parser ys ss s → Answered Parsed ByValue p (xs ++ ys) ts t
    → (v ≡ Ok tt) × (a.verdict ≡ Ok tt) × (r ≡ Ok a.parser) × (t ≡ s) × (ts ≡ rs ++ ss)
handed_over p {q} {xs = xs} {ys} {rs} {ss} {ts} b d v a r z one n w k i two all =
    let e = parse_answers one in
    let q_is : q ≡ after p xs = e.1 in
    let sound : Sound q = rw q_is (sound_after p xs z) in
    let wrote : left v d ≡ left (Ok tt) (block q) = w ∙ write_taken q sound b n in
    let read : a ≡ record { verdict = Ok tt; parser = q } =
    k ∙ ap (λ (l : Left Verdict). read_block l.buffer) wrote ∙ read_back q sound in
    let back : a.parser ≡ after p xs = ap (λ (y : ReadAnswer). y.parser) read ∙ q_is in
    let f = parse_answers two in
    let g = parse_answers all in (
      ap (λ (l : Left Verdict). l.answer) wrote,
      ap (λ (y : ReadAnswer). y.verdict) read,
      i ∙ ap answered (sym k ∙ read) ∙ ap (λ (y : ReadAnswer). Ok y.parser) (sym read),
      g.1 ∙ after_append p xs ys ∙ ap (λ (y : Parser). after y ys) (sym back) ∙ sym f.1,
      g.0 ∙ calls_append p xs ys
          ∙ ap₂ {C = List Parsed} (λ x y. x ++ y) (sym e.0) (ap (λ (y : Parser). calls y ys) (sym back) ∙ sym f.0),
    )
