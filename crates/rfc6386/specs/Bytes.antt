-- Plain bytes: little-endian numbers, the least significant byte first (RFC 6386 sections 9.1 and 9.5; recordings have them of 4 bytes).
use Rattle.std.specs.Prelude.{ℕ, ◌+◌, ◌*◌, List, get_or}

-- 2 bytes from place i on
abbrev pub le2 : List ℕ → ℕ → ℕ
le2 s i = get_or s i 0 + get_or s (i + 1) 0 * 256

-- 3 bytes from place i on
abbrev pub le3 : List ℕ → ℕ → ℕ
le3 s i = le2 s i + get_or s (i + 2) 0 * 65536

-- 4 bytes from place i on
abbrev pub le4 : List ℕ → ℕ → ℕ
le4 s i = le3 s i + get_or s (i + 3) 0 * 16777216
