-- What is done with a block: a record read from it or written into it, as a record or as its 1,126 bytes, and one call over it. Each is a
-- function of what is given, on every input: the answer, and the buffer that is left.
use Rattle.std.specs.Prelude.{ℕ, ◌≡◌, List, [], ◌∷◌, Result, Ok, Err, ltb, drop}
use Rattle.vp8_records.specs.declared.Parser.{Parser}
use Rattle.vp8_records.specs.Mode.{mode_of}
use Rattle.vp8_records.specs.Outcome.{number_of}
use Rattle.vp8_records.specs.Start.{fresh}
use Rattle.rfc6386.specs.Decoder.{pick}
use Rattle.rfc6386.specs.Call.{Asked, called}
use Rattle.vp8_state.specs.declared.BlockRefusal.{BlockRefusal}
use Rattle.vp8_state.specs.declared.ReadAnswer.{ReadAnswer}
use Rattle.vp8_state.specs.Block.{record_bytes, block, Verdict, refusal_of, block_verdict, write_verdict, flat}
use Rattle.vp8_state.specs.Laid.{parser_of}

-- the one where nothing is refused, the other where something is
abbrev pub taken : {A : Type 0} → Verdict → A → A → A
taken (Ok e) x y = x
taken (Err r) x y = y

-- an answer, and what a lent buffer holds afterwards
pub record Left (A : Type 0) : Type 0 where
  pub answer : A
  pub buffer : List ℕ

abbrev pub left : {A : Type 0} → A → List ℕ → Left A
left a b = record { answer = a; buffer = b }

-- the record of a block: of what follows its heading
abbrev pub record_of : List ℕ → Parser
record_of b = parser_of (drop 22 b)

-- read: a block that is refused gives the fresh record
unfoldable pub read_block : List ℕ → ReadAnswer
read_block b = record { verdict = block_verdict b; parser = taken (block_verdict b) (record_of b) fresh }

-- in code: the record, or else the refusal alone
abbrev pub or_refused : Verdict → Parser → Result Parser BlockRefusal
or_refused (Ok e) p = Ok p
or_refused (Err r) p = Err r

abbrev pub answered : ReadAnswer → Result Parser BlockRefusal
answered a = or_refused a.verdict a.parser

-- write into a lent buffer
unfoldable pub write_block : Parser → List ℕ → Left Verdict
write_block p b =
    let v = write_verdict (record_bytes p) b in
    left v (taken v (block p) b)

-- exported: the record of the block b into the buffer o, as its bytes
unfoldable pub state_read : List ℕ → List ℕ → Left ℕ
state_read b o =
    let v = flat o (block_verdict b) in
    left (refusal_of v) (taken v (record_bytes (record_of b)) o)

-- exported: the record of the bytes s into the block b
unfoldable pub state_write : List ℕ → List ℕ → Left ℕ
state_write s b =
    let v = flat s (write_verdict s b) in
    left (refusal_of v) (taken v (block (parser_of s)) b)

-- what one exported call asks: a mode by its number, and a frame
pub record Offer : Type 0 where
  pub mode : ℕ
  pub frame : List ℕ

abbrev pub asked : Offer → Asked
asked x = record { mode = mode_of x.mode; frame = x.frame }

-- a call over the record p: its refusal's number or 0, and the block of the record that it leaves
abbrev pub handed : Parser → Asked → Left ℕ
handed p x =
    let a = called p x in
    left (number_of a.outcome) (block a.parser)

-- exported: one call over the record of the block b
unfoldable pub state_parse : List ℕ → Offer → Left ℕ
state_parse b x =
    let v = block_verdict b in
    taken v (handed (record_of b) (asked x)) (left (refusal_of v) b)

-- exported calls over one block, the answer of each, and the block that is left: a host hands in its block as it stands, or other bytes
-- that are refused, and then goes on with its block
pub data Exported : List ℕ → List Offer → List ℕ → List ℕ → Type 0 where
  stop : {b : List ℕ} → Exported b [] [] b
  own : {b c d : List ℕ} {x : Offer} {xs : List Offer} {r : ℕ} {rs : List ℕ} → left r c ≡ state_parse b x → Exported c xs rs d
      → Exported b (x ∷ xs) (r ∷ rs) d
  other : {b c d : List ℕ} (o : List ℕ) {x : Offer} {xs : List Offer} {r : ℕ} {rs : List ℕ} → (block_verdict o ≡ Ok tt → ⊥)
      → left r c ≡ state_parse o x → Exported b xs rs d → Exported b (x ∷ xs) (r ∷ rs) d

-- a parse that is refused by 13 to 15 is no call: the calls among these, and their answers
unfoldable pub the_calls : List Offer → List ℕ → List Asked
the_calls [] rs = []
the_calls (x ∷ xs) [] = []
the_calls (x ∷ xs) (r ∷ rs) = pick (ltb r 13) (asked x ∷ the_calls xs rs) (the_calls xs rs)

unfoldable pub calls_answers : List ℕ → List ℕ
calls_answers [] = []
calls_answers (r ∷ rs) = pick (ltb r 13) (r ∷ calls_answers rs) (calls_answers rs)
