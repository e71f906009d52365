-- The ten steps of 01, in its order, each under its sentence: its checks in the order of the answer numbers, each with its kind, and what it
-- does where none fails. Assumes nothing.
use Rattle.std.specs.Prelude.{ℕ, ◌+◌, ◌%◌, Bool, cond, not, ◌&&◌, ◌||◌, List, [], ◌∷◌, length, replicate, nat_le, nat_lt, ◌==◌, nat_eq}
use Rattle.numbers.specs.Epochs.{last_epoch}
use Rattle.table.specs.Lists.{some, count, first}
use Rattle.table.specs.State.{TaskRow, BlockRow, State, idle_task, free_block, task_of, block_of, slot_of, is_idle, is_working, is_looking, is_free, is_made, is_shown, with_task, with_block, with_slot, with_epoch}
use Rattle.rules.specs.Outcome.{Outcome, answers, Check, refused_where, checked}
use Rattle.rules.specs.Effects.{begun, looking, settled, counted, ended, made, shown_if_made, retired}
use Rattle.rules.specs.Sweeping.{retired_by, sweep_done}

-- kind 3: task not below T
abbrev pub no_task : State → (k : ℕ) → Check
no_task s k = refused_where (nat_le (length s.tasks) k) 3

-- kind 4: the task isn't in the phase asked
abbrev pub not_in_phase : (TaskRow → Bool) → State → (k : ℕ) → Check
not_in_phase asked s k = refused_where (not (asked (task_of s k))) 4

-- kind 5: slot not below P
abbrev pub no_slot : State → (p : ℕ) → Check
no_slot s p = refused_where (nat_le (length s.slots) p) 5

-- Open (T, N, P, F, E): all tasks idle with 0 makes, all blocks free, slots 0, epoch 0. (Its answer is in OnTable: it looks at no state.)
abbrev pub opened : (T N P F E : ℕ) → State
opened T N P F E = record { tasks = replicate T idle_task; blocks = replicate N free_block; slots = replicate P 0; per_epoch = F; per_sweep = E; epoch = 0 }

-- Start (task idle): lower and upper become the epoch, phase 1. Value: the epoch.
abbrev pub start_checks : State → (k : ℕ) → List Check
start_checks s k = no_task s k ∷ not_in_phase is_idle s k ∷ []

abbrev pub start_done : State → (k : ℕ) → Outcome
start_done s k = answers 0 s.epoch (with_task s k (begun s.epoch (task_of s k)))

unfoldable pub start : State → (k : ℕ) → Outcome
start s k = checked s (start_checks s k) (start_done s k)

-- Look (task working, slot): the candidate becomes the slot's content, phase 2. A second look replaces the first. Value 0.
abbrev pub look_checks : State → (k p : ℕ) → List Check
look_checks s k p = no_task s k ∷ not_in_phase is_working s k ∷ no_slot s p ∷ []

abbrev pub look_done : State → (k p : ℕ) → Outcome
look_done s k p = answers 0 0 (with_task s k (looking (slot_of s p) (task_of s k)))

unfoldable pub look : State → (k p : ℕ) → Outcome
look s k p = checked s (look_checks s k p) (look_done s k p)

-- Settle (phase 2): if upper equals the epoch, done, and the value is the candidate, 0 for an empty slot. Otherwise upper becomes the epoch
-- and the answer is kind 11, look again. Either way phase 1, candidate 0.
abbrev pub settle_checks : State → (k : ℕ) → List Check
settle_checks s k = no_task s k ∷ not_in_phase is_looking s k ∷ []

abbrev pub reserved : State → (k : ℕ) → Bool
reserved s k = (task_of s k).upper == s.epoch

abbrev pub settle_done : State → (k : ℕ) → Outcome
settle_done s k = answers (cond (reserved s k) 0 11) (cond (reserved s k) (task_of s k).candidate 0) (with_task s k (settled s.epoch (task_of s k)))

unfoldable pub settle : State → (k : ℕ) → Outcome
settle s k = checked s (settle_checks s k) (settle_done s k)

-- Make (task working): makes so far rises by 1. If it is now divisible by F, the epoch rises by 1. The lowest-numbered free block becomes
-- made, by this task, born at the epoch after that rise. Value: its number.
abbrev pub divisible : (n by : ℕ) → Bool
divisible n by = (n % by) == 0

abbrev pub raises : (F makes : ℕ) → Bool
raises F makes = divisible (makes + 1) F

abbrev pub epoch_after : State → (makes : ℕ) → ℕ
epoch_after s makes = cond (raises s.per_epoch makes) (s.epoch + 1) s.epoch

abbrev pub lowest_free : State → ℕ
lowest_free s = first is_free 1 s.blocks

-- the most that a task can make: a count, and no epoch
abbrev pub most_makes : ℕ
most_makes = 4294967295

abbrev pub exhausted : State → (makes : ℕ) → Bool
exhausted s makes = makes == most_makes || nat_lt last_epoch (epoch_after s makes)

abbrev pub make_checks : State → (k : ℕ) → List Check
make_checks s k =
    no_task s k
    ∷ not_in_phase is_working s k
    ∷ refused_where (not (some is_free s.blocks)) 9
    ∷ refused_where (exhausted s (task_of s k).makes) 10
    ∷ []

-- block b made by task k at an epoch
abbrev pub made_at : State → (k b epoch : ℕ) → State
made_at s k b epoch = with_block (with_task (with_epoch s epoch) k (counted (task_of s k))) b (made k epoch)

abbrev pub make_done : State → (k : ℕ) → Outcome
make_done s k = answers 0 (lowest_free s) (made_at s k (lowest_free s) (epoch_after s (task_of s k).makes))

unfoldable pub make : State → (k : ℕ) → Outcome
make s k = checked s (make_checks s k) (make_done s k)

-- Swap (task working, slot, old, new): where the slot holds old, it gets new, a made block becomes shown with task 0, value 1. Otherwise
-- nothing changes, value 0. New is 0, a shown block, or a block this task made. Old and new may be equal.
abbrev pub above_n : State → (b : ℕ) → Bool
above_n s b = nat_lt (length s.blocks) b

abbrev pub made_by : (k : ℕ) → BlockRow → Bool
made_by k b = is_made b && b.task == k

-- a shown block, or one that this task made
abbrev pub in_hand : (k : ℕ) → BlockRow → Bool
in_hand k b = is_shown b || made_by k b

abbrev pub swap_checks : State → (k p old new : ℕ) → List Check
swap_checks s k p old new =
    no_task s k
    ∷ not_in_phase is_working s k
    ∷ no_slot s p
    ∷ refused_where (above_n s old || above_n s new) 6
    ∷ refused_where (not (new == 0 || in_hand k (block_of s new))) 7
    ∷ []

-- slot p gets block new, which is shown from now on
abbrev pub shown_in : State → (p new : ℕ) → State
shown_in s p new = with_block (with_slot s p new) new (shown_if_made (block_of s new))

abbrev pub swap_done : State → (k p old new : ℕ) → Outcome
swap_done s k p old new = cond (slot_of s p == old) (answers 0 1 (shown_in s p new)) (answers 0 0 s)

unfoldable pub swap : State → (k p old new : ℕ) → Outcome
swap s k p old new = checked s (swap_checks s k p old new) (swap_done s k p old new)

-- Retire (task working, block): the block is shown and in no slot, or made by this task. It becomes retired by this task, at the present
-- epoch. If the number of blocks now retired by this task is divisible by E, the sweep follows in the same step. Value: blocks freed.
unfoldable pub named : State → (b : ℕ) → Bool
named s b = some (nat_eq b) s.slots

abbrev pub retire_checks : State → (k b : ℕ) → List Check
retire_checks s k b =
    no_task s k
    ∷ not_in_phase is_working s k
    ∷ refused_where (b == 0 || above_n s b) 6
    ∷ refused_where (not (in_hand k (block_of s b))) 7
    ∷ refused_where (named s b) 8
    ∷ []

abbrev pub retired_in : State → (k b : ℕ) → State
retired_in s k b = with_block s b (retired k s.epoch (block_of s b))

unfoldable pub retired_count : State → (k : ℕ) → ℕ
retired_count s k = count (retired_by k) s.blocks

abbrev pub sweeps_now : State → (k : ℕ) → Bool
sweeps_now s k = divisible (retired_count s k) s.per_sweep

-- once the block is retired: the sweep, where it follows
abbrev pub after_retire : State → (k : ℕ) → Outcome
after_retire s k = cond (sweeps_now s k) (sweep_done s k) (answers 0 0 s)

abbrev pub retire_done : State → (k b : ℕ) → Outcome
retire_done s k b = after_retire (retired_in s k b) k

unfoldable pub retire : State → (k b : ℕ) → Outcome
retire s k b = checked s (retire_checks s k b) (retire_done s k b)

-- Sweep (task in any phase): each block retired by this task which no task's interval meets becomes free, all its words 0. Value: how many.
abbrev pub sweep_checks : State → (k : ℕ) → List Check
sweep_checks s k = no_task s k ∷ []

unfoldable pub sweep : State → (k : ℕ) → Outcome
sweep s k = checked s (sweep_checks s k) (sweep_done s k)

-- End (task working): idle mark in both, phase 0, candidate 0. It is refused while any block is in state made by this task (02, request iii).
unfoldable pub unshown : State → (k : ℕ) → Bool
unshown s k = some (made_by k) s.blocks

abbrev pub end_checks : State → (k : ℕ) → List Check
end_checks s k = no_task s k ∷ not_in_phase is_working s k ∷ refused_where (unshown s k) 12 ∷ []

abbrev pub end_done : State → (k : ℕ) → Outcome
end_done s k = answers 0 0 (with_task s k (ended (task_of s k)))

unfoldable pub end : State → (k : ℕ) → Outcome
end s k = checked s (end_checks s k) (end_done s k)

-- Tally (state 0..3): value, how many blocks are in that state. Nothing changes.
abbrev pub in_state : (state : ℕ) → BlockRow → Bool
in_state state b = b.state == state

abbrev pub tally_checks : State → (state : ℕ) → List Check
tally_checks s state = refused_where (nat_lt 3 state) 3 ∷ []

abbrev pub tally_done : State → (state : ℕ) → Outcome
tally_done s state = answers 0 (count (in_state state) s.blocks) s

unfoldable pub tally : State → (state : ℕ) → Outcome
tally s state = checked s (tally_checks s state) (tally_done s state)
