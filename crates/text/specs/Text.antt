-- A text in a buffer, and what is written to it. The whole buffer is told, so what stands past the text is told too.
use Rattle.std.specs.Prelude.{ℕ, ◌+◌, cond, List, [], ◌∷◌, ltb, length, set}

-- the first `count` bytes of the buffer are the text; `place` is 0 where the buffer is its own, else by what name it is lent
pub record Text : Type 0 where
  pub buffer : List ℕ
  pub count : ℕ
  pub place : ℕ

abbrev pub standing : ℕ → List ℕ → ℕ → Text
standing p xs n = record { buffer = xs; count = n; place = p }

-- in a buffer of its own
abbrev pub text : List ℕ → ℕ → Text
text xs n = standing 0 xs n

-- one byte more, where there is room for it
unfoldable pub put : Text → ℕ → Text
put t b = cond (ltb t.count (length t.buffer)) (standing t.place (set t.buffer t.count b) (t.count + 1)) t

-- one after the other
unfoldable pub puts : Text → List ℕ → Text
puts t [] = t
puts t (x ∷ xs) = puts (put t x) xs
