-- What a table says (01, "The lent table"): tasks, blocks and slots, the two rates and the epoch. Assumes nothing.
use Rattle.std.specs.Prelude.{ℕ, Bool, ◌||◌, List, get_or, set, ◌==◌}
use Rattle.numbers.specs.Epochs.{idle_mark, meets}
use Rattle.table.specs.Lists.{from_one, put_from_one}

-- a task: idle, or at work, or at work with a look outstanding (phase 0, 1, 2)
pub record TaskRow : Type 0 where
  pub lower : ℕ
  pub upper : ℕ
  pub makes : ℕ
  pub phase : ℕ
  pub candidate : ℕ

-- a block: free, made, shown or retired (state 0, 1, 2, 3)
pub record BlockRow : Type 0 where
  pub state : ℕ
  pub task : ℕ
  pub birth : ℕ
  pub retire : ℕ

-- T, N and P are the lengths of the lists; a slot is a block's number, or 0
pub record State : Type 0 where
  pub tasks : List TaskRow
  pub blocks : List BlockRow
  pub slots : List ℕ
  pub per_epoch : ℕ
  pub per_sweep : ℕ
  pub epoch : ℕ

-- a task before its first operation, and a free block
abbrev pub idle_task : TaskRow
idle_task = record { lower = idle_mark; upper = idle_mark; makes = 0; phase = 0; candidate = 0 }

abbrev pub free_block : BlockRow
free_block = record { state = 0; task = 0; birth = 0; retire = 0 }

-- task k and slot p count from 0, block b from 1; what no record has reads as an idle task, an empty slot, a free block
abbrev pub task_of : State → ℕ → TaskRow
task_of s k = get_or s.tasks k idle_task

abbrev pub block_of : State → ℕ → BlockRow
block_of s b = from_one s.blocks b free_block

abbrev pub slot_of : State → ℕ → ℕ
slot_of s p = get_or s.slots p 0

-- the phase of a task and the state of a block
abbrev pub is_idle : TaskRow → Bool
is_idle k = k.phase == 0

abbrev pub is_looking : TaskRow → Bool
is_looking k = k.phase == 2

abbrev pub is_working : TaskRow → Bool
is_working k = k.phase == 1 || k.phase == 2

abbrev pub is_free : BlockRow → Bool
is_free b = b.state == 0

abbrev pub is_made : BlockRow → Bool
is_made b = b.state == 1

abbrev pub is_shown : BlockRow → Bool
is_shown b = b.state == 2

abbrev pub is_retired : BlockRow → Bool
is_retired b = b.state == 3

-- a task's interval meets a block
abbrev pub met_by : BlockRow → TaskRow → Bool
met_by b k = meets k.lower k.upper b.birth b.retire

-- a task with another interval
abbrev pub with_interval : (lower upper : ℕ) → TaskRow → TaskRow
with_interval lower upper k = record { lower = lower; upper = upper; makes = k.makes; phase = k.phase; candidate = k.candidate }

-- the state with its tasks, a task, its blocks, a block, a slot or the epoch put anew
abbrev pub with_tasks : State → List TaskRow → State
with_tasks s ts = record { tasks = ts; blocks = s.blocks; slots = s.slots; per_epoch = s.per_epoch; per_sweep = s.per_sweep; epoch = s.epoch }

abbrev pub with_task : State → ℕ → TaskRow → State
with_task s k r = with_tasks s (set s.tasks k r)

abbrev pub with_blocks : State → List BlockRow → State
with_blocks s bs = record { tasks = s.tasks; blocks = bs; slots = s.slots; per_epoch = s.per_epoch; per_sweep = s.per_sweep; epoch = s.epoch }

abbrev pub with_block : State → ℕ → BlockRow → State
with_block s b r = with_blocks s (put_from_one s.blocks b r)

abbrev pub with_slot : State → ℕ → ℕ → State
with_slot s p b = record { tasks = s.tasks; blocks = s.blocks; slots = set s.slots p b; per_epoch = s.per_epoch; per_sweep = s.per_sweep; epoch = s.epoch }

abbrev pub with_epoch : State → ℕ → State
with_epoch s e = record { tasks = s.tasks; blocks = s.blocks; slots = s.slots; per_epoch = s.per_epoch; per_sweep = s.per_sweep; epoch = e }
