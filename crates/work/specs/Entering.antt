-- What the first checks of a step on a task leave: the task's record, or a refusal whatever comes after. Assumes nothing.
use Rattle.std.specs.Prelude.{ℕ, ◌<◌, ◌≡◌, Bool, true, List, [], ◌∷◌, length, Result, Ok, Err}
use Rattle.table.specs.State.{TaskRow, State, task_of}
use Rattle.table.specs.Words.{state_of}
use Rattle.table.specs.Records.{task_row}
use Rattle.table.specs.declared.records.Phase.{Phase}
use Rattle.table.specs.declared.records.TaskRecord.{TaskRecord}
use Rattle.rules.specs.Outcome.{Outcome, checked}
use Rattle.rules.specs.Steps.{no_task, not_in_phase}
use Rattle.rules.specs.OnTable.{in_words}
use Rattle.work.specs.Answers.{told}
use Rattle.work.specs.declared.answers.Refusal.{Refusal}

-- what a closure answers of a task's phase is what a test says of its row
abbrev pub Asks : (Phase → Bool → Type 0) → (TaskRow → Bool) → Type 0
Asks answers test = (r : TaskRecord) (b : Bool) → answers r.phase b → b ≡ test (task_row r)

-- kinds 3 and 4, and then the rest of a step
unfoldable pub entering : (TaskRow → Bool) → State → (k : ℕ) → Outcome → Outcome
entering asked s k rest = checked s (no_task s k ∷ not_in_phase asked s k ∷ []) rest

-- what is known of the task once they are passed
pub record Inside (t : List ℕ) (k : ℕ) (asked : TaskRow → Bool) (r : TaskRecord) : Type 0 where
  pub below : k < length (state_of t).tasks
  pub row : task_row r ≡ task_of (state_of t) k
  pub phase : asked (task_of (state_of t) k) ≡ true

abbrev pub Entered : List ℕ → (k : ℕ) → (TaskRow → Bool) → Result TaskRecord Refusal → Type 0
Entered t k asked (Ok r) = Inside t k asked r
Entered t k asked (Err x) = (rest : Outcome) → told (Err x) t ≡ in_words (entering asked (state_of t) k rest)
