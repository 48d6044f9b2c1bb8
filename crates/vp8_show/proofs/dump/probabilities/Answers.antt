-- Three names, each with the bytes that the flat records have.
use Rattle.text.specs.Template.{ascii}
use Rattle.text.proofs.Puts.{then}
use Rattle.vp8_show.specs.Dumped.{probs_text}
use Rattle.vp8_show.proofs.Laws.{hex_is}
use Rattle.vp8_show.proofs.dump.probabilities.Goals as goal

pub returns : goal.returns
unfolding probs_text
returns g c = then _ _ _ _ _ (hex_is _ _ (ascii " modes=") _ _ c.named_bytes.ensures c.modes.ensures)
    (then _ _ _ _ _ (hex_is _ _ (ascii " mv=") _ _ c.named_bytes-2.ensures c.motion.ensures)
    (hex_is _ _ (ascii " coeff=") _ _ c.named_bytes-3.ensures c.coeffs.ensures))
