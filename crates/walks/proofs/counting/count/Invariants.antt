-- `walks::counting::count`: what was found and what passes among the blocks left are all that pass. Assumes nothing.
use Rattle.std.proofs.Common.{◌≡◌, ◌+◌, ◌≤◌, Bool, length, drop}
use Rattle.table.specs.Lists.{count}
use Rattle.table.specs.State.{BlockRow}
use Rattle.table.specs.Words.{state_of}
use Rattle.walks.specs.Wanted.{Decides}
use Rattle.walks.proofs.counting.count.Given as goal

abbrev pub invariant-loop-i : goal.invariant-loop-i
invariant-loop-i g l =
    (l.i ≤ l.i-end) × (l.i-end ≡ length (state_of l.table).blocks) × (l.found ≤ l.i)
    × ((test : BlockRow → Bool) → Decides (goal.F-post g l.wanted) test
    → l.found + count test (drop l.i (state_of l.table).blocks) ≡ count test (state_of l.table).blocks)
