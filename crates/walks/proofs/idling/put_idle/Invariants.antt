-- `walks::idling::put_idle`: the tasks passed are at rest, and those that are left as they were. Assumes nothing.
use Rattle.std.proofs.Common.{◌≡◌, ◌≤◌, length}
use Rattle.numbers.specs.Epochs.{idle_mark}
use Rattle.table.specs.State.{with_interval, with_tasks}
use Rattle.table.specs.Words.{state_of, words}
use Rattle.table.proofs.Along.{along}
use Rattle.walks.proofs.idling.put_idle.Given as goal

abbrev pub invariant-loop-i : goal.invariant-loop-i
invariant-loop-i l =
    (l.i ≤ l.i-end) × (l.i-end ≡ length (state_of l.initial.table).tasks)
    × (l.table ≡ words (with_tasks (state_of l.initial.table) (along (with_interval idle_mark idle_mark) l.i (state_of l.initial.table).tasks)))
