-- `work::tally`: no such state, or the number of blocks in it. Assumes nothing.
use Rattle.std.proofs.Common.{arith}
use Rattle.work.proofs.Cases.{tally_refused, tally_done_lem}
use Rattle.work.proofs.tally.Goals as goal

pub returns-then-state : goal.returns-then-state
returns-then-state c = tally_refused _ _ c.requires c.if-state.true

pub returns : goal.returns
returns c = tally_done_lem _ _ _ c.requires (omega arith) c.in_state.ensures
