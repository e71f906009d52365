-- `table::words::task_at`: a sound table's task is in a phase that a record can say. Assumes nothing.
use Rattle.std.proofs.Common.{◌≤◌, ◌<◌, ◌≡◌, subst, sym}
use Rattle.table.specs.State.{TaskRow}
use Rattle.table.proofs.Sound.{exact, facts, spoken}
use Rattle.table.proofs.words.task_at.Goals as goal

pub task_words-w-requires : goal.task_words-w-requires
task_words-w-requires c = (exact _ c.requires.0, c.requires.1)

pub of-requires : goal.of-requires
of-requires c =
    subst (λ (r : TaskRow). (r.phase ≤ 2) × (r.phase < 2 → r.candidate ≡ 0)) (sym c.task_words-w.ensures)
    (spoken ((facts _ c.requires.0).tasks _))

pub returns : goal.returns
returns c = rw (c.of.ensures.0, c.of.ensures.1) c.task_words-w.ensures
