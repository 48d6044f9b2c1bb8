-- Laws of a text that grows: a byte is put or has no room, pieces one after the other are one piece, a loop over a piece puts one byte
-- a turn; and where the text fits, it is the old text and the piece. By induction on the piece.
use Prim.Native.Nat.{ℕ, suc, ◌+◌, ◌-◌, ◌/◌, ◌%◌, ◌≤◌, ◌<◌}
use native.Mathlib.Omega.{arith}
use native.Mathlib.Decide.{dec_le}
use native.Mathlib.Nat.{add-zero}
use native.Mathlib.Numerals.{add-one}
use mathlib.Core.Path.{◌≡◌, refl, ap, sym, ◌∙◌}
use mathlib.Core.Bool.{Bool, true, false, cond}
use mathlib.Core.List.{List, [], ◌∷◌, ◌++◌, append-nil}
use lib.Dec.{ltb}
use lib.ListN.{length, get_or, take, set, length-set}
use lib.Seq.{take-nil, take-suc, take-suc-set, append_snoc}
use borrow.Author.Tests.{lt-ltb, le-ltb}
use Rattle.text.specs.Text.{Text, text, standing, put, puts}
use Rattle.text.specs.Digits.{glyph, hex_of}

pub put_room : {p : ℕ} (xs : List ℕ) (n b : ℕ) → n < length xs → standing p (set xs n b) (n + 1) ≡ put (standing p xs n) b
unfolding put
put_room xs n b h = rw (lt-ltb n (length xs) h)

pub put_full : {p : ℕ} (xs : List ℕ) (n b : ℕ) → length xs ≤ n → standing p xs n ≡ put (standing p xs n) b
unfolding put
put_full xs n b h = rw (le-ltb n (length xs) h)

pub puts_append : (t : Text) (xs ys : List ℕ) → puts t (xs ++ ys) ≡ puts (puts t xs) ys
unfolding puts
puts_append t [] ys = refl
puts_append t (x ∷ xs) ys = puts_append (put t x) xs ys

-- the first byte of a piece, and the rest
pub puts_cons : (t : Text) (x : ℕ) (xs : List ℕ) → puts t (x ∷ xs) ≡ puts (put t x) xs
unfolding puts
puts_cons t x xs = refl

pub puts_nil : (t : Text) → puts t [] ≡ t
unfolding puts
puts_nil t = refl

-- one writer after another
pub ruleset writes = (puts_append, puts_cons, puts_nil)

-- a turn of the loop
pub puts_turn : (t u v : Text) (xs : List ℕ) (i : ℕ) → i < length xs → u ≡ puts t (take i xs) → v ≡ put u (get_or xs i 0)
    → v ≡ puts t (take (i + 1) xs)
unfolding puts
puts_turn t u v xs i h e d = d ∙ rw (e, add-one i, take-suc xs i 0 h, puts_append t (take i xs) (get_or xs i 0 ∷ []))

pub hex_append : (xs ys : List ℕ) → hex_of (xs ++ ys) ≡ hex_of xs ++ hex_of ys
unfolding hex_of
hex_append [] ys = refl
hex_append (x ∷ xs) ys = ap (λ (l : List ℕ). glyph (x / 16) ∷ (glyph (x % 16) ∷ l)) (hex_append xs ys)

pub hex_nil : (t : Text) → puts t (hex_of []) ≡ t
unfolding hex_of puts
hex_nil t = refl

pub hex_turn : (t u v w : Text) (xs : List ℕ) (i : ℕ) → i < length xs → u ≡ puts t (hex_of (take i xs))
    → v ≡ put u (glyph (get_or xs i 0 / 16)) → w ≡ put v (glyph (get_or xs i 0 % 16)) → w ≡ puts t (hex_of (take (i + 1) xs))
unfolding puts hex_of
hex_turn t u v w xs i h e d f =
    f
    ∙ rw (
      d,
      e,
      add-one i,
      take-suc xs i 0 h,
      hex_append (take i xs) (get_or xs i 0 ∷ []),
      puts_append t (hex_of (take i xs)) (hex_of (get_or xs i 0 ∷ [])),
    )

-- what is put takes no room from the buffer
sized : (b : Bool) (t : Text) (n x : ℕ) → length (cond b (standing t.place (set t.buffer t.count x) n) t).buffer ≡ length t.buffer
sized true t n x = length-set t.buffer t.count x
sized false t n x = refl

pub length-puts : (t : Text) (xs : List ℕ) → length (puts t xs).buffer ≡ length t.buffer
unfolding put puts
length-puts t [] = refl
length-puts t (x ∷ xs) = length-puts (put t x) xs ∙ sized (ltb t.count (length t.buffer)) t (t.count + 1) x

-- where there is room for all of it, the text is the old one and the piece
pub fits : (buffer : List ℕ) (n : ℕ) (xs : List ℕ) → n + length xs ≤ length buffer
    → (take (n + length xs) (puts (text buffer n) xs).buffer ≡ take n buffer ++ xs) × ((puts (text buffer n) xs).count ≡ n + length xs)
fits buffer n [] h = rw (add-zero n, puts_nil (text buffer n)) (sym (append-nil (take n buffer)), refl)
fits buffer n (x ∷ xs) h =
    let step = put_room {p = 0} buffer n x (omega arith) in
    let more = fits (set buffer n x) (n + 1) xs (rw (length-set buffer n x) (omega arith)) in
    let e : n + suc (length xs) ≡ n + 1 + length xs = omega arith in
    let front : take (n + 1) (set buffer n x) ≡ take n buffer ++ (x ∷ []) = rw (add-one n) (take-suc-set buffer n x (omega arith)) in
    let old : take n buffer ++ (x ∷ []) ++ xs ≡ take n buffer ++ (x ∷ xs) = append_snoc (take n buffer) x xs in
    rw (e, puts_cons (text buffer n) x xs, ← step) (more.0 ∙ rw front old, more.1)

-- what stands in the text, whether there is room for all of the piece or not
abbrev Stands : List ℕ → List ℕ → ℕ → Type 0
Stands xs buffer n =
    take (puts (text buffer n) xs).count (puts (text buffer n) xs).buffer ≡ take n buffer ++ take (length buffer - n) xs

stands_more : (x : ℕ) (xs buffer : List ℕ) (n : ℕ) → (suc n ≤ length buffer → Stands xs (set buffer n x) (n + 1)) → Stands xs buffer n
    → Dec (suc n ≤ length buffer) → Stands (x ∷ xs) buffer n
stands_more x xs buffer n next full (yes g) =
    let left : length buffer - n ≡ suc (length buffer - (n + 1)) = omega arith in
    let front : take (n + 1) (set buffer n x) ≡ take n buffer ++ (x ∷ []) = rw (add-one n) (take-suc-set buffer n x g) in
    rw (puts_cons (text buffer n) x xs, ← put_room {p = 0} buffer n x g, left)
    (next g ∙ rw (front, length-set buffer n x) (append_snoc (take n buffer) x (take (length buffer - (n + 1)) xs)))
stands_more x xs buffer n next full (no g) =
    let none : length buffer - n ≡ 0 = omega arith in
    rw (puts_cons (text buffer n) x xs, ← put_full {p = 0} buffer n x (omega arith), none) (rw none at full)

pub stands : (xs buffer : List ℕ) (n : ℕ) → n ≤ length buffer → Stands xs buffer n
stands [] buffer n h = rw (puts_nil (text buffer n), take-nil {A = ℕ} (length buffer - n)) (sym (append-nil (take n buffer)))
stands (x ∷ xs) buffer n h =
    stands_more x xs buffer n (λ g. stands xs (set buffer n x) (n + 1) (rw (length-set buffer n x) (omega (arith, g))))
    (stands xs buffer n h) (dec_le (suc n) (length buffer))

-- one byte is a piece
pub one : (t u : Text) (b : ℕ) → u ≡ put t b → u ≡ puts t (b ∷ [])
one t u b e = e ∙ sym (puts_cons t b [] ∙ puts_nil (put t b))

-- a piece, then another
pub then : (t u v : Text) (xs ys : List ℕ) → u ≡ puts t xs → v ≡ puts u ys → v ≡ puts t (xs ++ ys)
then t u v xs ys e d = d ∙ ap (λ (w : Text). puts w ys) e ∙ sym (puts_append t xs ys)

-- a piece, then one byte
pub then_one : (t u v : Text) (xs : List ℕ) (b : ℕ) → u ≡ puts t xs → v ≡ put u b → v ≡ puts t (xs ++ (b ∷ []))
then_one t u v xs b e d = then t u v xs (b ∷ []) e (d ∙ sym (puts_cons u b [] ∙ puts_nil (put u b)))

-- the same piece by other words
pub worded : (t u : Text) (xs ys : List ℕ) → u ≡ puts t xs → xs ≡ ys → u ≡ puts t ys
worded t u xs ys e d = e ∙ ap (puts t) d

-- the same buffer and place under other names
pub still : {B : Type 0} (place : B → ℕ) (items : B → List ℕ) {b c : B} {m n : ℕ} → b ≡ c → m ≡ n
    → standing (place b) (items b) m ≡ standing (place c) (items c) n
still place items e d = λ i. standing (place (e i)) (items (e i)) (d i)

-- a buffer lent under any name takes the same bytes as one of the text's own, and keeps its name
moved : (p : ℕ) (b : Bool) (xs ys : List ℕ) (m n : ℕ)
    → cond b (standing p ys m) (standing p xs n) ≡ standing p (cond b (text ys m) (text xs n)).buffer (cond b (text ys m) (text xs n)).count
moved p true xs ys m n = refl
moved p false xs ys m n = refl

pub put_standing : (p : ℕ) (xs : List ℕ) (n b : ℕ)
    → put (standing p xs n) b ≡ standing p (put (text xs n) b).buffer (put (text xs n) b).count
unfolding put
put_standing p xs n b = moved p (ltb n (length xs)) xs (set xs n b) (n + 1) n

pub puts_standing : (p : ℕ) (xs : List ℕ) (n : ℕ) (bs : List ℕ)
    → puts (standing p xs n) bs ≡ standing p (puts (text xs n) bs).buffer (puts (text xs n) bs).count
unfolding puts
puts_standing p xs n [] = refl
puts_standing p xs n (b ∷ bs) =
    ap (λ (t : Text). puts t bs) (put_standing p xs n b)
    ∙ puts_standing p (put (text xs n) b).buffer (put (text xs n) b).count bs
    ∙ ap (λ (t : Text). standing p (puts t bs).buffer (puts t bs).count) (sym (put_standing 0 xs n b))

named : (b : Bool) (t : Text) (n x : ℕ) → (cond b (standing t.place (set t.buffer t.count x) n) t).place ≡ t.place
named true t n x = refl
named false t n x = refl

pub place_put : (t : Text) (x : ℕ) → (put t x).place ≡ t.place
unfolding put
place_put t x = named (ltb t.count (length t.buffer)) t (t.count + 1) x

pub place_puts : (t : Text) (xs : List ℕ) → (puts t xs).place ≡ t.place
unfolding puts
place_puts t [] = refl
place_puts t (x ∷ xs) = place_puts (put t x) xs ∙ place_put t x

-- who lends a slice learns what it ends as: the text stands in that slice, and is what a text of one's own would be
pub lent : {p : ℕ} {xs : List ℕ} {n : ℕ} (bs : List ℕ) {t u : Text} → t ≡ standing p xs n → u ≡ puts t bs
    → (u.place ≡ p) × (text u.buffer u.count ≡ puts (text xs n) bs)
lent {p} {xs} {n} bs {t} {u} e d =
    let whole = d ∙ ap (λ (v : Text). puts v bs) e ∙ puts_standing p xs n bs in
    (ap (λ (v : Text). v.place) whole, ap (λ (v : Text). text v.buffer v.count) whole ∙ sym (puts_standing 0 xs n bs))
