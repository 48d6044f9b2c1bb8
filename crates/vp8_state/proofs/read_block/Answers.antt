-- The refusal is the block's verdict, and the record beside it the fresh one: `Handed`.
use mathlib.Core.List.{[]}
use Rattle.vp8_state.proofs.Handed.{refused_is}
use Rattle.vp8_state.proofs.read_block.Goals as goal

pub returns-in-Err : goal.returns-in-Err
returns-in-Err c = refused_is c.args.block.now (record { mode = 0; frame = [] }) c.record_in.ensures c.in-Err.is c.new.ensures
