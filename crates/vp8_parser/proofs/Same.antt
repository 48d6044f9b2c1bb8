-- Any two answers that a contract admits are equal: the contracts are equations with the definition.
use Prim.Native.Nat.{ℕ}
use mathlib.Core.Path.{◌≡◌, refl, sym, ap, ◌∙◌}
use mathlib.Core.List.{List}
use native.Mathlib.Omega.{arith}
use Rattle.std.specs.Prelude.{Result, Ok, Err}
use Rattle.vp8_records.specs.declared.Mode.{Mode}
use Rattle.vp8_records.specs.declared.Parsed.{Parsed}
use Rattle.vp8_records.specs.declared.Parser.{Parser}
use Rattle.vp8_records.specs.declared.Look.{Look}
use Rattle.vp8_records.specs.declared.PeekRefusal.{PeekRefusal}
use Rattle.vp8_records.specs.declared.PeekRefusal.TheVariants.{TooShort, StartCode}
use Rattle.vp8_records.specs.declared.Refusal.{Refusal}
use Rattle.vp8_records.specs.Outcome.{refusal_of}
use Rattle.rfc6386.specs.Frame.{chunk}
use Rattle.rfc6386.specs.Call.{call}
use Rattle.rfc6386.specs.Peek.{peek, peek_of}
use Rattle.vp8_header.specs.declared.DataChunk.{DataChunk}
use Rattle.vp8_header.specs.Headed.{chunk_of}
use Rattle.vp8_parser.specs.Answers.{opened_of}

-- a chunk of the code is the definition's chunk, field by field
same_chunk : (k j : DataChunk) → chunk_of k ≡ chunk_of j → k ≡ j
same_chunk k j e i = record {
  key_frame = (e i).key;
  version = (e i).version;
  show_frame = (e i).show;
  first_part_size = (e i).first;
  data_chunk_size = (e i).size;
  width_code = (e i).width;
  height_code = (e i).height;
}

-- an answer of the code is the definition's
same_opened : (r q : Result DataChunk Refusal) → opened_of r ≡ opened_of q → r ≡ q
same_opened (Err o) (Err u) e = let h : o ≡ u = cc in ap Err h
same_opened (Err o) (Ok k) e = absurd (grind arith)
same_opened (Ok k) (Err o) e = absurd (grind arith)
same_opened (Ok k) (Ok j) e = let h : chunk_of k ≡ chunk_of j = cc in ap Ok (same_chunk k j h)

pub parse_uncompressed_data_chunk : (f : List ℕ) (r q : Result DataChunk Refusal) → opened_of r ≡ chunk f → opened_of q ≡ chunk f → r ≡ q
parse_uncompressed_data_chunk f r q a b = same_opened r q (a ∙ sym b)

pub parse : (md : Mode) (p : Parser) (f : List ℕ) (r q : Parsed) → r ≡ call md p f → q ≡ call md p f → r ≡ q
parse md p f r q a b = a ∙ sym b

-- each refusal of a look stands for another of a call
same_refusal : (d e : PeekRefusal) → refusal_of d ≡ refusal_of e → d ≡ e
same_refusal TooShort TooShort h = refl
same_refusal (StartCode c) (StartCode d) h = let same : c ≡ d = cc in ap StartCode same
same_refusal TooShort (StartCode d) h = absurd (grind arith)
same_refusal (StartCode c) TooShort h = absurd (grind arith)

-- each answer of a look for another of the definition
pub same_look : (r q : Result Look PeekRefusal) → peek_of r ≡ peek_of q → r ≡ q
same_look (Ok l) (Ok m) e = let h : l ≡ m = cc in ap Ok h
same_look (Err d) (Err e) h = let same : refusal_of d ≡ refusal_of e = cc in ap Err (same_refusal d e same)
same_look (Ok l) (Err e) h = absurd (grind arith)
same_look (Err e) (Ok l) h = absurd (grind arith)

pub peek_one : (f : List ℕ) (r q : Result Look PeekRefusal) → peek_of r ≡ peek f → peek_of q ≡ peek f → r ≡ q
peek_one f r q a b = same_look r q (a ∙ sym b)
