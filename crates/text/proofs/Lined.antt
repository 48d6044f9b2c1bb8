-- Lines byte by byte: a turn of the loop is the definition's step at what is left of them.
use Prim.Native.Nat.{ℕ, ◌+◌, ◌≤◌, ◌<◌}
use native.Mathlib.Numerals.{add-one}
use mathlib.Core.Path.{◌≡◌, ap, sym, ◌∙◌}
use mathlib.Core.Bool.{Bool, true, false, cond}
use mathlib.Core.List.{List, [], ◌∷◌, ◌++◌}
use lib.Dec.{eqb}
use lib.ListN.{length, get_or, drop, drop_of_length-le}
use lib.Seq.{drop-cons}
use Rattle.text.specs.Text.{Text, put, puts}
use Rattle.text.specs.Digits.{decimal_of}
use Rattle.text.specs.Lines.{numbered_from}
use Rattle.text.proofs.Puts.{puts_append, puts_cons, puts_nil, then_one}

-- what stands in front of a byte: the number and a space, or nothing
pub head_put : (t u v : Text) (n : ℕ) (begins : Bool) → begins ≡ true → u ≡ puts t (decimal_of n) → v ≡ put u 32
    → v ≡ puts t (cond begins (decimal_of n ++ (32 ∷ [])) [])
head_put t u v n begins b e d = rw b (then_one t u v (decimal_of n) 32 e d)

pub head_none : (t : Text) (n : ℕ) (begins : Bool) → begins ≡ false → t ≡ puts t (cond begins (decimal_of n ++ (32 ∷ [])) [])
head_none t n begins b = rw b (sym (puts_nil t))

-- one byte, after what stands in front of a line where it begins one
number_step : (t u v : Text) (n b : ℕ) (begins : Bool) (cs : List ℕ) → u ≡ puts t (cond begins (decimal_of n ++ (32 ∷ [])) []) → v ≡ put u b
    → puts v (numbered_from n (eqb b 10) cs) ≡ puts t (numbered_from n begins (b ∷ cs))
unfolding numbered_from
number_step t u v n b begins cs e d =
    ap (λ (w : Text). puts w (numbered_from n (eqb b 10) cs)) d
    ∙ sym (puts_cons u b (numbered_from n (eqb b 10) cs))
    ∙ ap (λ (w : Text). puts w (b ∷ numbered_from n (eqb b 10) cs)) e
    ∙ sym (puts_append t (cond begins (decimal_of n ++ (32 ∷ [])) []) (b ∷ numbered_from n (eqb b 10) cs))

pub number_turn : (t u v w : Text) (n : ℕ) (begins : Bool) (ls : List ℕ) (i : ℕ) → i < length ls
    → v ≡ puts u (cond begins (decimal_of n ++ (32 ∷ [])) []) → w ≡ put v (get_or ls i 0) → puts u (numbered_from n begins (drop i ls)) ≡ t
    → puts w (numbered_from n (eqb (get_or ls i 0) 10) (drop (i + 1) ls)) ≡ t
number_turn t u v w n begins ls i h e d q =
    let left = drop-cons ls i 0 h ∙ ap (λ (k : ℕ). get_or ls i 0 ∷ drop k ls) (sym (add-one i)) in
    number_step u v w n (get_or ls i 0) begins (drop (i + 1) ls) e d ∙ ap (λ (l : List ℕ). puts u (numbered_from n begins l)) (sym left) ∙ q

pub number_end : (t u : Text) (n : ℕ) (begins : Bool) (ls : List ℕ) (i : ℕ) → length ls ≤ i
    → puts u (numbered_from n begins (drop i ls)) ≡ t → u ≡ t
unfolding numbered_from
number_end t u n begins ls i h e = sym (puts_nil u) ∙ rw (drop_of_length-le ls h) at e
