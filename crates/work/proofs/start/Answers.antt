-- `work::start`: refused on entering, or done. Assumes nothing.
use Rattle.std.proofs.Common.{rules}
use Rattle.table.specs.State.{is_idle}
use Rattle.work.proofs.Entries.{out}
use Rattle.work.proofs.Cases.{start_candidate, start_enters, start_done_lem}
use Rattle.work.proofs.start.Goals as goal

pub returns-in_err-r : goal.returns-in_err-r
returns-in_err-r c = out _ _ is_idle (search rules) (c.in_err-r.ensures.entered is_idle (λ r b q. search rules)) _ (start_enters _ _)

pub begun-requires : goal.begun-requires
begun-requires c = start_candidate _ _ _ (c.in_ok-r.ensures.entered is_idle (λ r b q. search rules))

pub returns : goal.returns
returns c = start_done_lem _ _ _ (c.in_ok-r.ensures.entered is_idle (λ r b q. search rules)) _ _ _ c.epoch-now.ensures c.begun.ensures c.put_task.ensures
