-- `storing::opening::put_opened`: a blank table whose tasks are put to rest. Assumes nothing.
use Rattle.std.proofs.Common.{ap, ◌∙◌, map}
use Rattle.numbers.specs.Epochs.{idle_mark}
use Rattle.table.specs.State.{State, with_interval, with_tasks}
use Rattle.table.specs.Words.{words}
use Rattle.table.proofs.Places.{says}
use Rattle.storing.proofs.Openings.{opened_is}
use Rattle.storing.proofs.opening.put_opened.Goals as goal

pub put_idle-requires : goal.put_idle-requires
put_idle-requires c = (says _ _ c.put_blank.ensures).0

pub returns : goal.returns
returns c =
    c.put_idle.ensures
    ∙ ap (λ (u : State). words (with_tasks u (map (with_interval idle_mark idle_mark) u.tasks))) (says _ _ c.put_blank.ensures).1
    ∙ ap words (opened_is _ _ _ _ _)
