-- What the code puts together of the three stages is the definition's header and state: each field is that of the stage that read it.
use Prim.Native.Nat.{ℕ}
use mathlib.Core.Path.{◌≡◌, refl, sym, ap, ◌∙◌}
use mathlib.Core.List.{List, []}
use Rattle.vp8_records.specs.declared.Header.{Header}
use Rattle.vp8_records.specs.declared.Mode.{Mode}
use Rattle.vp8_records.specs.declared.Parser.{Parser}
use Rattle.rfc6386.specs.Decoder.{State, Out, start, bits, pick}
use Rattle.rfc6386.specs.Reads.{run}
use Rattle.rfc6386.specs.Coded.{Coded, header}
use Rattle.rfc6386.specs.Frame.{Snapshot, snapshot}
use Rattle.rfc6386.specs.Call.{Probs, probs_of, probs_over, keeping, apply, header_of}
use Rattle.bool_decoder.specs.Engine.{out}
use Rattle.vp8_header.specs.declared.DataChunk.{DataChunk}
use Rattle.vp8_header.specs.declared.First.{First}
use Rattle.vp8_header.specs.declared.Second.{Second}
use Rattle.vp8_header.specs.declared.Third.{Third}
use Rattle.vp8_header.specs.Stages.{FirstCoded, SecondCoded, ThirdCoded, first_of, second_of, inter_of, third_of, whole_of, probs_in}
use Rattle.vp8_header.specs.Headed.{chunk_of, headed_by, Heads, headed_of}

-- the state is what the stages read, with the header's flag
state_is : (k : DataChunk) (p : Parser) (a : FirstCoded) (b : SecondCoded) (t : ThirdCoded) (s : Snapshot) (q : Probs)
    → keeping (first_of p.segmentation a).segmentation (second_of p.mb_lf_adjust b).mb_lf_adjust
    (pick (header_of (chunk_of k) (whole_of a b t) s [] q).refresh_entropy_probs (probs_in (third_of (probs_of p) t)) (probs_of p))
    ≡ apply (whole_of a b t) p
unfolding header_of apply probs_over first_of second_of third_of inter_of
state_is k p a b t s q = refl

pub built : (md : Mode) (k : DataChunk) (p : Parser) (area : List ℕ) (a : FirstCoded) (b : SecondCoded) (t : ThirdCoded) (st : State)
    (x : First) (y : Second) (z : Third) (h : Header) (q : Parser)
    → x ≡ first_of p.segmentation a → y ≡ second_of p.mb_lf_adjust b → z ≡ third_of (probs_of p) t
    → run (header md k.key_frame) (bits area) (start area) ≡ out (whole_of a b t) st
    → Heads h k x y z (snapshot (bits area) st)
    → q ≡ keeping x.segmentation y.mb_lf_adjust (pick h.refresh_entropy_probs (probs_in z) (probs_of p))
    → record { header = h; parser = q } ≡ headed_of md (chunk_of k) area p
unfolding headed_of
built md k p area a b t st x y z h q ex ey ez e heads eq =
    let s : Snapshot = snapshot (bits area) st in
    let h' = heads p a b t ex ey ez in
    let q' : q ≡ apply (whole_of a b t) p = (rw (ex, ey, ez, h') at eq) ∙ state_is k p a b t s _ in
    (λ i. record { header = h' i; parser = q' i })
    ∙ ap (λ (o : Out Coded). headed_by (chunk_of k) p (bits area) o) (sym e)
