-- What becomes of a task's and of a block's record by a step (01, "The steps"). A word that is not named stays as it is. Assumes nothing.
use Rattle.std.specs.Prelude.{ℕ, ◌+◌, cond}
use Rattle.numbers.specs.Epochs.{idle_mark}
use Rattle.table.specs.State.{TaskRow, BlockRow, free_block, is_made}

-- start: lower and upper become the epoch, phase 1
abbrev pub begun : (epoch : ℕ) → TaskRow → TaskRow
begun epoch r = record { lower = epoch; upper = epoch; makes = r.makes; phase = 1; candidate = r.candidate }

-- look: the candidate becomes the slot's content, phase 2
abbrev pub looking : (content : ℕ) → TaskRow → TaskRow
looking content r = record { lower = r.lower; upper = r.upper; makes = r.makes; phase = 2; candidate = content }

-- settle: upper becomes the epoch, which it may be already; phase 1, candidate 0
abbrev pub settled : (epoch : ℕ) → TaskRow → TaskRow
settled epoch r = record { lower = r.lower; upper = epoch; makes = r.makes; phase = 1; candidate = 0 }

-- make: makes so far rises by 1
abbrev pub counted : TaskRow → TaskRow
counted r = record { lower = r.lower; upper = r.upper; makes = r.makes + 1; phase = r.phase; candidate = r.candidate }

-- end: idle mark in both, phase 0, candidate 0
abbrev pub ended : TaskRow → TaskRow
ended r = record { lower = idle_mark; upper = idle_mark; makes = r.makes; phase = 0; candidate = 0 }

-- make: a free block becomes made, by this task, born at this epoch
abbrev pub made : (task epoch : ℕ) → BlockRow
made task epoch = record { state = 1; task = task; birth = epoch; retire = 0 }

-- swap: a made block becomes shown with task 0; any other stays
abbrev pub shown : BlockRow → BlockRow
shown b = record { state = 2; task = 0; birth = b.birth; retire = b.retire }

abbrev pub shown_if_made : BlockRow → BlockRow
shown_if_made b = cond (is_made b) (shown b) b

-- retire: the block becomes retired by this task, at this epoch
abbrev pub retired : (task epoch : ℕ) → BlockRow → BlockRow
retired task epoch b = record { state = 3; task = task; birth = b.birth; retire = epoch }

-- sweep: the block becomes free, all its words 0
abbrev pub freed : BlockRow
freed = free_block
