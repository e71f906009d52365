-- `work::end`: refused on entering, an unshown block, or done. Assumes nothing.
use Rattle.std.proofs.Common.{rules, arith}
use Rattle.table.specs.State.{is_working}
use Rattle.work.proofs.Entries.{out}
use Rattle.work.proofs.Cases.{end_enters, end-unshown, end_done_lem}
use Rattle.work.proofs.end.Goals as goal

pub returns-in_err-r : goal.returns-in_err-r
returns-in_err-r c = out _ _ is_working (search rules) (c.in_err-r.ensures.entered is_working (λ r b q. search rules)) _ (end_enters _ _)

pub returns-then-made_by-gt0 : goal.returns-then-made_by-gt0
returns-then-made_by-gt0 c = end-unshown _ _ _ (c.in_ok-r.ensures.entered is_working (λ r b q. search rules)) c.made_by.ensures c.requires c.if-made_by-gt0.true

pub returns : goal.returns
returns c =
    end_done_lem _ _ _ (c.in_ok-r.ensures.entered is_working (λ r b q. search rules)) c.made_by.ensures (omega arith) _ _ c.ended.ensures c.put_task.ensures
