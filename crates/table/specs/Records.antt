-- What a record of the code says: its row of the state. Assumes nothing.
use Rattle.std.specs.Prelude.{ℕ}
use Rattle.table.specs.declared.records.Phase.{Phase}
use Rattle.table.specs.declared.records.Phase.TheVariants.{Idle, Working, Looked}
use Rattle.table.specs.declared.records.TaskRecord.{TaskRecord}
use Rattle.table.specs.declared.records.TaskWords.{TaskWords}
use Rattle.table.specs.declared.records.BlockRecord.{BlockRecord}
use Rattle.table.specs.State.{TaskRow, BlockRow}

-- a phase's two words: its number, and its candidate, which only an outstanding look has
abbrev pub phase_number : Phase → ℕ
phase_number Idle = 0
phase_number Working = 1
phase_number (Looked b) = 2

abbrev pub candidate_of : Phase → ℕ
candidate_of Idle = 0
candidate_of Working = 0
candidate_of (Looked b) = b.0

abbrev pub task_row : TaskRecord → TaskRow
task_row r = record { lower = r.interval.lower.0; upper = r.interval.upper.0; makes = r.makes; phase = phase_number r.phase; candidate = candidate_of r.phase }

abbrev pub words_row : TaskWords → TaskRow
words_row r = record { lower = r.interval.lower.0; upper = r.interval.upper.0; makes = r.makes; phase = r.phase; candidate = r.candidate }

abbrev pub block_row : BlockRecord → BlockRow
block_row r = record { state = r.state.0; task = r.task.0; birth = r.birth.0; retire = r.retire.0 }
