-- The measure is the number, since a tenth is less.
use Rattle.text.proofs.+digits_at.Given as goal

abbrev pub decreases-digits_at : goal.decreases-digits_at
decreases-digits_at g l = l.n
