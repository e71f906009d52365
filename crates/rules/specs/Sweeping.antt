-- Which blocks a sweep of a task frees, and what it leaves and answers: what the sweep does, and a retire where the sweep follows. Assumes
-- nothing.
use Rattle.std.specs.Prelude.{ℕ, Bool, cond, not, ◌&&◌, List, map, ◌==◌}
use Rattle.table.specs.Lists.{some, count}
use Rattle.table.specs.State.{TaskRow, BlockRow, State, is_retired, met_by, with_blocks}
use Rattle.rules.specs.Outcome.{Outcome, answers}
use Rattle.rules.specs.Effects.{freed}

-- retired by task k
abbrev pub retired_by : (k : ℕ) → BlockRow → Bool
retired_by k b = is_retired b && b.task == k

-- no task's interval meets the block
unfoldable pub unmet : List TaskRow → BlockRow → Bool
unmet ts b = not (some (met_by b) ts)

-- a sweep of task k frees the block
unfoldable pub frees : List TaskRow → (k : ℕ) → BlockRow → Bool
frees ts k b = retired_by k b && unmet ts b

abbrev pub after_sweep : List TaskRow → (k : ℕ) → BlockRow → BlockRow
after_sweep ts k b = cond (frees ts k b) freed b

-- the state after it, and how many it frees
abbrev pub swept : State → (k : ℕ) → State
swept s k = with_blocks s (map (after_sweep s.tasks k) s.blocks)

abbrev pub freed_by : State → (k : ℕ) → ℕ
freed_by s k = count (frees s.tasks k) s.blocks

abbrev pub sweep_done : State → (k : ℕ) → Outcome
sweep_done s k = answers 0 (freed_by s k) (swept s k)
