-- `walks::sweeping::unmet`: the tasks that are left decide. Assumes nothing.
use Rattle.std.proofs.Common.{◌≡◌, ◌≤◌, not, length, drop}
use Rattle.table.specs.Lists.{some}
use Rattle.table.specs.State.{met_by}
use Rattle.table.specs.Records.{block_row}
use Rattle.table.specs.Words.{state_of}
use Rattle.rules.specs.Sweeping.{unmet}
use Rattle.walks.proofs.sweeping.unmet.Given as goal

abbrev pub invariant-loop-i : goal.invariant-loop-i
invariant-loop-i l =
    (l.i ≤ l.i-end) × (l.i-end ≡ length (state_of l.table).tasks)
    × (unmet (state_of l.table).tasks (block_row l.b) ≡ not (some (met_by (block_row l.b)) (drop l.i (state_of l.table).tasks)))
