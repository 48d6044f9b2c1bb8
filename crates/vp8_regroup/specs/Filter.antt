-- The loop filter's level and sharpness as the header codes them, a literal of six bools and one of three (RFC 6386 section 9.4).
use Rattle.std.specs.Prelude.{ℕ}
use Rattle.rfc6386.specs.Reads.{Rd, ret, ◌>>=◌, lit}
use Rattle.vp8_regroup.specs.declared.Filter as F

pub record FilterCoded : Type 0 where
  pub level : ℕ
  pub sharpness : ℕ

unfoldable pub filter : Rd FilterCoded
filter = do
  ll ← lit 6
  sh ← lit 3
  ret (record { level = ll; sharpness = sh })

abbrev pub filter_of : F.Filter → FilterCoded
filter_of r = record { level = r.level; sharpness = r.sharpness }
