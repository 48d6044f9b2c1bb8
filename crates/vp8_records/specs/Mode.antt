-- A mode by its number, for those who pass numbers: 0 is the Rust's, any other the standard's.
use Rattle.std.specs.Prelude.{ℕ, zero, suc}
use Rattle.vp8_records.specs.declared.Mode.{Mode}
use Rattle.vp8_records.specs.declared.Mode.TheVariants.{Rust, Standard}

abbrev pub mode_of : ℕ → Mode
mode_of zero = Rust
mode_of (suc n) = Standard
