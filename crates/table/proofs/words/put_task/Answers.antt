-- `table::words::put_task`: the words stored are the task put anew, with its phase in two of them. Assumes nothing.
use Rattle.table.proofs.Places.{task_put}
use Rattle.table.proofs.words.put_task.Goals as goal

pub returns : goal.returns
returns c = rw (c.number.ensures, c.candidate.ensures) (task_put _ c.requires.0 _ _ _ c.requires.1 c.task_place-at.ensures.0)
