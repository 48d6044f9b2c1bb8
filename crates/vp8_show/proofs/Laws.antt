-- The lines of the partitions one by one, in terms of what is left; the line of a look by its cases; lines with a number in front; and
-- examples of the text, by computation.
use Prim.Native.Nat.{ℕ, suc, ◌+◌, ◌-◌, ◌≤◌, ◌<◌}
use native.Mathlib.Omega.{arith}
use native.Mathlib.Numerals.{add-one}
use mathlib.Core.Path.{◌≡◌, refl, ap, sym, ◌∙◌}
use mathlib.Core.List.{List, [], ◌∷◌, ◌++◌}
use mathlib.Core.Bool.{true}
use lib.IntN.{ℤ}
use lib.ListN.{length, length-replicate, replicate, get_or, take, drop, drop_of_length-le}
use lib.Seq.{drop-cons}
use mir.Syntax.{w8}
use mir.Val.{SFits, to_z, of_z}
use mir.Facts.{to_z-of_z}
use Rattle.std.specs.Prelude.{Result, Ok, Err}
use Rattle.vp8_records.specs.declared.Parsed.{Parsed}
use Rattle.vp8_records.specs.declared.Look.{Look}
use Rattle.vp8_records.specs.declared.Refusal.TheVariants.{ChunkTooShort, InvalidPartitionSize}
use Rattle.vp8_records.specs.declared.PeekRefusal.{PeekRefusal}
use Rattle.vp8_records.specs.declared.PeekRefusal.TheVariants.{TooShort, StartCode}
use Rattle.vp8_records.specs.Start.{fresh, blank}
use Rattle.rfc6386.specs.Call.{answer}
use Rattle.text.specs.Text.{Text, text, puts}
use Rattle.text.specs.Digits.{hex_of, digits_of, decimal_of}
use Rattle.text.specs.Template.{ascii, filled}
use Rattle.text.specs.Lines.{numbered, numbered_from}
use Rattle.text.proofs.Puts.{puts_append, puts_nil, stands}
use Rattle.vp8_show.specs.Refusal.{refusal_text, look_text}
use Rattle.vp8_show.specs.Printed.{frame_line, partition_line, partition_lines, accepted_text}
use Rattle.vp8_show.specs.Printed.{printed, printed_at, printed_look}
use Rattle.vp8_show.specs.Dumped.{delta_text, dumped_look}

-- the line of a partition in four pieces
pub line_is : (i s n : ℕ)
    → (ascii "part " ++ decimal_of i) ++ ((ascii " start " ++ decimal_of s) ++ ((ascii " length " ++ decimal_of n) ++ (10 ∷ [])))
    ≡ partition_line i s n
unfolding partition_line filled
line_is i s n = refl

-- a turn of the loop over the sizes, and its end
pub turn : (t u v : Text) (sizes : List ℕ) (i from n : ℕ) → i < length sizes → n ≡ get_or sizes i 0 → v ≡ puts u (partition_line i from n)
    → puts u (partition_lines i from (drop i sizes)) ≡ t → puts v (partition_lines (i + 1) (from + n) (drop (i + 1) sizes)) ≡ t
unfolding partition_lines
turn t u v sizes i from n h e d q =
    let left : drop i sizes ≡ n ∷ drop (i + 1) sizes =
    drop-cons sizes i 0 h ∙ ap (λ (x : ℕ). x ∷ drop (suc i) sizes) (sym e) ∙ ap (λ (k : ℕ). n ∷ drop k sizes) (sym (add-one i)) in
    ap (λ (w : Text). puts w (partition_lines (i + 1) (from + n) (drop (i + 1) sizes))) d
    ∙ sym (puts_append u (partition_line i from n) (partition_lines (i + 1) (from + n) (drop (i + 1) sizes)))
    ∙ ap (λ (l : List ℕ). puts u (partition_lines i from l)) (sym left)
    ∙ q

pub end : (t u : Text) (sizes : List ℕ) (i from : ℕ) → length sizes ≤ i → puts u (partition_lines i from (drop i sizes)) ≡ t → u ≡ t
unfolding partition_lines
end t u sizes i from h q =
    sym (puts_nil u) ∙ sym (ap (λ (l : List ℕ). puts u (partition_lines i from l)) (drop_of_length-le sizes h)) ∙ q

-- the line of a look that is cut short is that of refusal 1
pub look_short : (template word code : List ℕ) (r : Result Look PeekRefusal) → r ≡ Err TooShort
    → refusal_text word code [] [] (Err ChunkTooShort) ≡ look_text template word code r
unfolding look_text
look_short template word code r e = rw e

-- the line of a look, with its first word and the words of the line of an answer
pub dump_look : (r : Result Look PeekRefusal)
    → ascii "peek " ++ look_text (ascii "key=| ver=| show=| first=| w=| h=| hs=| vs=|") (ascii "err ") (ascii " code=") r ≡ dumped_look r
unfolding dumped_look look_text refusal_text filled
dump_look (Ok l) = refl
dump_look (Err TooShort) = refl
dump_look (Err (StartCode n)) = refl

-- a delta read back from the byte that a record holds
pub delta_is : (t u : Text) (z : ℤ) → SFits w8 z → u ≡ puts t (delta_text (to_z w8 (of_z w8 z))) → u ≡ puts t (delta_text z)
delta_is t u z f e = e ∙ ap (λ (y : ℤ). puts t (delta_text y)) (to_z-of_z {w = w8} f)

-- a name, and bytes that another list says
pub hex_is : (t u : Text) (name xs ys : List ℕ) → u ≡ puts t (name ++ hex_of xs) → xs ≡ ys → u ≡ puts t (name ++ hex_of ys)
hex_is t u name xs ys e d = e ∙ ap (λ (l : List ℕ). puts t (name ++ hex_of l)) d

-- lines in an empty text of at most 1,024 bytes, and from there to another, each with a number in front
pub numbered_lines : (t u own empty : Text) (lines : List ℕ) (index : ℕ) (p : Parsed) → empty ≡ text (replicate 1024 0) 0
    → own ≡ puts empty (printed p) → lines ≡ take own.count own.buffer → u ≡ puts t (numbered index lines) → u ≡ puts t (printed_at index p)
unfolding printed_at
numbered_lines t u own empty lines index p b e q w =
    let room : length (replicate {A = ℕ} 1024 0) ≡ 1024 = length-replicate {A = ℕ} 1024 0 in
    let all : length (replicate {A = ℕ} 1024 0) - 0 ≡ 1024 = omega arith in
    let told : take own.count own.buffer ≡ take 1024 (printed p) =
    ap (λ (x : Text). take x.count x.buffer) (e ∙ ap (λ (x : Text). puts x (printed p)) b)
    ∙ stands (printed p) (replicate 1024 0) 0 (omega arith)
    ∙ ap (λ (n : ℕ). take n (printed p)) all in
    w ∙ ap (λ (k : List ℕ). puts t (numbered index k)) (q ∙ told)

-- examples, by computation
look_example : printed_look (Ok (record {
  key_frame = true;
  «version» = 0;
  show_frame = true;
  first_part_size = 1;
  «width» = 176;
  «height» = 144;
  horiz_scale_code = 3;
  vert_scale_code = 1;
}))
    ≡ ascii "key 1 version 0 show 1 first 1 size 176x144 scale 3x1\n"
unfolding printed_look look_text filled decimal_of digits_of
look_example = refl

refusal_example : printed (answer (Err (InvalidPartitionSize 11 10)) blank fresh) ≡ ascii "refused 3 end 11 length 10\n"
unfolding printed refusal_text decimal_of digits_of
refusal_example = refl

line_example : partition_lines 0 11 (1 ∷ []) ≡ ascii "part 0 start 11 length 1\n"
unfolding partition_lines partition_line filled decimal_of digits_of
line_example = refl

-- the index in front of part lines too
numbered_example : printed_at 70 (answer (Ok tt) blank fresh)
    ≡ ascii "70 accepted key 0 version 0 show 0 chunk 0 first 0 size 0x0 parts 1 bools 0\n70 part 0 start 0 length 0\n"
unfolding printed_at printed blank fresh accepted_text frame_line partition_lines partition_line filled decimal_of digits_of numbered_from
numbered_example = refl
