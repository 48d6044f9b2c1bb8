-- Places in memory: a block, and bytes into it.
use Rattle.std.specs.Prelude.{ℕ, ◌+◌}

-- the place d bytes on
abbrev pub further : ℕ → ℕ × ℕ → ℕ × ℕ
further d p = (p.0, p.1 + d)
