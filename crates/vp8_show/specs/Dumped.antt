-- A line of the dump, without its end: `ok` and every number of the header, or `err` and the refusal, and the kept numbers after the call.
-- Numbers are decimal, probabilities and kept numbers two hexadecimal digits each.
use Rattle.std.specs.Prelude.{ℕ, cond, List, ◌++◌, eqb, ℤ, Result}
use Rattle.vp8_records.specs.declared.QuantIndices.{QuantIndices}
use Rattle.vp8_records.specs.declared.Header.{Header}
use Rattle.vp8_records.specs.declared.Parsed.{Parsed}
use Rattle.vp8_records.specs.declared.Look.{Look}
use Rattle.vp8_records.specs.declared.PeekRefusal.{PeekRefusal}
use Rattle.vp8_records.specs.Outcome.{number_of}
use Rattle.vp8_records.specs.Layout.{flat_coeffs, flat_mv}
use Rattle.text.specs.Digits.{hex_of, decimal_of, signed_of}
use Rattle.text.specs.Template.{ascii, filled}
use Rattle.vp8_flat.specs.Bytes.{flat_modes, kept_bytes}
use Rattle.vp8_flat.specs.Numbers.{shape_of, flags_of, tail_of}
use Rattle.vp8_show.specs.Refusal.{refusal_text, look_text}

-- the tag, the sizes, the filter and the partitions
unfoldable pub shape_text : Header → List ℕ
shape_text h =
    filled
    (ascii " key=| ver=| show=| chunk=| first=| w=| h=| hs=| vs=| cs=| ct=| ft=| lvl=| sharp=| n=| log2=|") (shape_of h)
    ++ filled (ascii " parts=|,|,|,|,|,|,|,|") h.partition_size

abbrev pub delta_text : ℤ → List ℕ
delta_text z = ascii "," ++ signed_of z

-- the index, and the five deltas with their sign
unfoldable pub quant_text : QuantIndices → List ℕ
quant_text q =
    (ascii " q=" ++ decimal_of q.y_ac_qi)
    ++ (delta_text q.y_dc_delta
    ++ (delta_text q.y2_dc_delta
    ++ (delta_text q.y2_ac_delta ++ (delta_text q.uv_dc_delta ++ delta_text q.uv_ac_delta))))

-- what the frame refreshes and copies, and its single probabilities
abbrev pub flags_text : Header → List ℕ
flags_text h = filled (ascii " rep=| rl=| rg=| ra=| cg=| ca=| sg=| sa=| skip=| psf=| pi=| pl=| pg=|") (flags_of h)

unfoldable pub probs_text : Header → List ℕ
probs_text h =
    (ascii " modes=" ++ hex_of (flat_modes h.mode_probs))
    ++ ((ascii " mv=" ++ hex_of (flat_mv h.mv_prob)) ++ (ascii " coeff=" ++ hex_of (flat_coeffs h.coeff_prob)))

-- the decoder's snapshot, and what follows from the whole header
abbrev pub tail_text : Header → List ℕ
tail_text h = filled (ascii " range=| value=| count=| hsize=| bools=| cols=| rows=| past=|") (tail_of h)

unfoldable pub header_text : Header → List ℕ
header_text h = ascii "ok" ++ (shape_text h ++ (quant_text h.quant_indices ++ (flags_text h ++ (probs_text h ++ tail_text h))))

unfoldable pub answer_text : Parsed → List ℕ
answer_text p =
    cond (eqb (number_of p.outcome) 0) (header_text p.header)
    (refusal_text (ascii "err ") (ascii " code=") (ascii " end=") (ascii " length=") p.outcome)

unfoldable pub dumped : Parsed → List ℕ
dumped p = answer_text p ++ (ascii " st=" ++ hex_of (kept_bytes p.parser))

-- the line of a look, without its end; a look keeps nothing, so no kept numbers follow
unfoldable pub dumped_look : Result Look PeekRefusal → List ℕ
dumped_look r = look_text (ascii "peek key=| ver=| show=| first=| w=| h=| hs=| vs=|") (ascii "peek err ") (ascii " code=") r
