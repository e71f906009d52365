-- How a state lies in the lent slice of words, and what state a slice of words says (01, "The lent table"). Every number of the layout
-- stands here. Assumes nothing.
use Rattle.std.specs.Prelude.{ℕ, zero, suc, ◌+◌, ◌*◌, ◌≡◌, Bool, ◌&&◌, List, [], ◌∷◌, ◌++◌, length, get_or, ◌==◌}
use Rattle.table.specs.State.{TaskRow, BlockRow, State}
use Rattle.table.specs.Soundness.{sound_state}

-- words 0 to 5: T tasks, N blocks, P slots, F makes per epoch, E retirements per sweep, epoch
abbrev pub header : State → List ℕ
header s = length s.tasks ∷ length s.blocks ∷ length s.slots ∷ s.per_epoch ∷ s.per_sweep ∷ s.epoch ∷ []

-- 5 words per task: lower, upper, makes so far, phase, candidate
abbrev pub task_words : TaskRow → List ℕ
task_words k = k.lower ∷ k.upper ∷ k.makes ∷ k.phase ∷ k.candidate ∷ []

-- 4 words per block: state, task, birth, retire
abbrev pub block_words : BlockRow → List ℕ
block_words b = b.state ∷ b.task ∷ b.birth ∷ b.retire ∷ []

-- 1 word per slot: block number or 0
abbrev pub slot_words : ℕ → List ℕ
slot_words b = b ∷ []

-- the words of each record, one after another
abbrev pub flat : {A : Type 0} → (A → List ℕ) → List A → List ℕ
flat f [] = []
flat f (x ∷ xs) = f x ++ flat f xs

unfoldable pub words : State → List ℕ
words s = header s ++ (flat task_words s.tasks ++ (flat block_words s.blocks ++ flat slot_words s.slots))

-- how many words each has
abbrev pub header_width : ℕ
header_width = 6

abbrev pub task_width : ℕ
task_width = 5

abbrev pub block_width : ℕ
block_width = 4

abbrev pub slot_width : ℕ
slot_width = 1

-- where the blocks and the slots begin (the tasks begin after the header), and where the table ends: 6 + 5 × T + 4 × N + P
abbrev pub blocks_at : (T : ℕ) → ℕ
blocks_at T = header_width + task_width * T

abbrev pub slots_at : (T N : ℕ) → ℕ
slots_at T N = blocks_at T + block_width * N

abbrev pub length_for : (T N P : ℕ) → ℕ
length_for T N P = slots_at T N + slot_width * P

-- the record that stands at a place
abbrev pub task_at : List ℕ → ℕ → TaskRow
task_at t at = record { lower = get_or t at 0; upper = get_or t (at + 1) 0; makes = get_or t (at + 2) 0; phase = get_or t (at + 3) 0; candidate = get_or t (at + 4) 0 }

abbrev pub block_at : List ℕ → ℕ → BlockRow
block_at t at = record { state = get_or t at 0; task = get_or t (at + 1) 0; birth = get_or t (at + 2) 0; retire = get_or t (at + 3) 0 }

abbrev pub slot_at : List ℕ → ℕ → ℕ
slot_at t at = get_or t at 0

-- n records, each w words wide, read from a place on
abbrev pub read_from : {A : Type 0} → (List ℕ → ℕ → A) → (w : ℕ) → List ℕ → (at n : ℕ) → List A
read_from g w t at zero = []
read_from g w t at (suc n) = g t at ∷ read_from g w t (at + w) n

-- the sizes that the first words say
abbrev pub tasks_in : List ℕ → ℕ
tasks_in t = get_or t 0 0

abbrev pub blocks_in : List ℕ → ℕ
blocks_in t = get_or t 1 0

abbrev pub slots_in : List ℕ → ℕ
slots_in t = get_or t 2 0

-- the state that a slice of words says, whatever its length: a word past the end reads as 0
unfoldable pub state_of : List ℕ → State
state_of t = record {
  tasks = read_from task_at task_width t header_width (tasks_in t);
  blocks = read_from block_at block_width t (blocks_at (tasks_in t)) (blocks_in t);
  slots = read_from slot_at slot_width t (slots_at (tasks_in t) (blocks_in t)) (slots_in t);
  per_epoch = get_or t 3 0;
  per_sweep = get_or t 4 0;
  epoch = get_or t 5 0;
}

-- the length is exact
abbrev pub Exact : List ℕ → Type 0
Exact t = length t ≡ length_for (tasks_in t) (blocks_in t) (slots_in t)

-- the same as a test
abbrev pub is_exact : List ℕ → Bool
is_exact t = length t == length_for (tasks_in t) (blocks_in t) (slots_in t)

-- a table is sound when its length is exact and the state it says is sound
unfoldable pub sound : List ℕ → Bool
sound t = is_exact t && sound_state (state_of t)
