-- The state that a table of zeros says once its sizes and rates stand in it: where opening a table begins. Assumes nothing.
use Rattle.std.specs.Prelude.{ℕ, replicate}
use Rattle.table.specs.State.{TaskRow, State, free_block}

abbrev pub zero_task : TaskRow
zero_task = record { lower = 0; upper = 0; makes = 0; phase = 0; candidate = 0 }

abbrev pub blank : (T N P F E : ℕ) → State
blank T N P F E = record { tasks = replicate T zero_task; blocks = replicate N free_block; slots = replicate P 0; per_epoch = F; per_sweep = E; epoch = 0 }
