-- `work::look`: refused on entering, no such slot, or done. Assumes nothing.
use Rattle.std.proofs.Common.{rules, arith}
use Rattle.table.specs.State.{is_working}
use Rattle.work.proofs.Entries.{out}
use Rattle.work.proofs.Cases.{look_enters, look-no_slot, look_done_lem}
use Rattle.work.proofs.look.Goals as goal

pub returns-in_err-r : goal.returns-in_err-r
returns-in_err-r c = out _ _ is_working (search rules) (c.in_err-r.ensures.entered is_working (λ r b q. search rules)) _ (look_enters _ _ _)

pub returns-then-slot-slots : goal.returns-then-slot-slots
returns-then-slot-slots c = look-no_slot _ _ _ (c.in_ok-r.ensures.entered is_working (λ r b q. search rules)) c.requires _ (omega arith)

pub returns : goal.returns
returns c =
    look_done_lem _ _ _ (c.in_ok-r.ensures.entered is_working (λ r b q. search rules)) _ _ _ _ (omega arith) c.slot_at-content.ensures c.looking.ensures c.put_task.ensures
