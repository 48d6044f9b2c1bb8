-- Field by field, with the equations that the calls ensure; two rewrites, since one would pass the checker's limit of steps.
use Rattle.rfc6386.specs.Frame.{snapshot}
use Rattle.rfc6386.specs.Call.{probs_over, header_of}
use Rattle.vp8_header.specs.Stages.{first_of, second_of, inter_of, third_of}
use Rattle.vp8_header.proofs.header_of.Goals as goal

pub returns : goal.returns
unfolding header_of snapshot probs_over first_of second_of third_of inter_of
returns c p a b t ex ey ez = let s = c.snapshot-state.ensures in
    rw (c.mode_probs_init_defaults-mode_probs.ensures, c.pos-header_size.ensures, s.range, s.value, s.count)
    (rw (c.bools-bools.ensures, c.blocks-mb_cols.ensures, c.blocks-mb_rows.ensures, c.past-past.ensures)
    (rw (c.pixels-width.ensures, c.pixels-height.ensures, c.scale-horiz_scale_code.ensures, c.scale-vert_scale_code.ensures)
    (rw (ex, ey, ez))))
