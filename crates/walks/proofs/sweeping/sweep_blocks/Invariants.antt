-- `walks::sweeping::sweep_blocks`: the blocks passed are swept and counted, and those that are left as they were. Assumes nothing.
use Rattle.std.proofs.Common.{◌≡◌, ◌+◌, ◌≤◌, length, drop}
use Rattle.table.specs.Lists.{count}
use Rattle.table.specs.State.{with_blocks}
use Rattle.table.specs.Words.{state_of, words}
use Rattle.table.proofs.Along.{along}
use Rattle.rules.specs.Sweeping.{frees, after_sweep, freed_by}
use Rattle.walks.proofs.sweeping.sweep_blocks.Given as goal

abbrev pub invariant-loop-i : goal.invariant-loop-i
invariant-loop-i l =
    (l.i ≤ l.i-end) × (l.i-end ≡ length (state_of l.initial.table).blocks) × (l.freed ≤ l.i)
    × (l.freed + count (frees (state_of l.initial.table).tasks l.task.0) (drop l.i (state_of l.initial.table).blocks) ≡ freed_by (state_of l.initial.table) l.task.0)
    × (l.table ≡ words (with_blocks (state_of l.initial.table) (along (after_sweep (state_of l.initial.table).tasks l.task.0) l.i (state_of l.initial.table).blocks)))
