-- When a state is sound: the limits, and 01's conditions on the epoch, each task, each block and each slot, in 01's order. Assumes nothing.
use Rattle.std.specs.Prelude.{ℕ, Bool, ◌&&◌, ◌||◌, length, nat_le, nat_lt, ◌==◌}
use Rattle.numbers.specs.Epochs.{idle_mark, last_epoch}
use Rattle.table.specs.Lists.{all}
use Rattle.table.specs.State.{TaskRow, BlockRow, State, block_of, is_free, is_made, is_shown, is_retired}

-- from 1 to a limit
abbrev pub within : (n limit : ℕ) → Bool
within n limit = nat_le 1 n && nat_le n limit

-- the limits of T tasks, N blocks, P slots, F makes per epoch, E retirements per sweep
abbrev pub sized : (T N P F E : ℕ) → Bool
sized T N P F E = within T 32 && within N 1024 && within P 256 && within F 65536 && within E 1024

-- lower ≤ upper ≤ epoch
abbrev pub sound_interval : (epoch : ℕ) → TaskRow → Bool
sound_interval epoch k = nat_le k.lower k.upper && nat_le k.upper epoch

-- an idle task has the idle mark in lower and upper, and candidate 0; any other has lower ≤ upper ≤ epoch, with candidate 0 in phase 1
-- and 0..N in phase 2
abbrev pub sound_task : (epoch N : ℕ) → TaskRow → Bool
sound_task epoch N k =
    k.phase == 0 && (k.lower == idle_mark && k.upper == idle_mark && k.candidate == 0)
    || k.phase == 1 && (sound_interval epoch k && k.candidate == 0)
    || k.phase == 2 && (sound_interval epoch k && nat_le k.candidate N)

-- a free block has 0 in its other words; a made block has birth ≤ epoch and retire 0, and so has a shown one, with task 0; a retired block
-- has birth ≤ retire ≤ epoch; task is always below T
abbrev pub sound_block : (epoch T : ℕ) → BlockRow → Bool
sound_block epoch T b = nat_lt b.task T && (
    is_free b && (b.task == 0 && b.birth == 0 && b.retire == 0)
    || is_made b && (nat_le b.birth epoch && b.retire == 0)
    || is_shown b && (b.task == 0 && nat_le b.birth epoch && b.retire == 0)
    || is_retired b && (nat_le b.birth b.retire && nat_le b.retire epoch))

-- a slot holds 0 or the number of a shown block
abbrev pub sound_slot : State → ℕ → Bool
sound_slot s b = b == 0 || is_shown (block_of s b)

-- the limits hold and the epoch is at most the last epoch
unfoldable pub sound_numbers : State → Bool
sound_numbers s = sized (length s.tasks) (length s.blocks) (length s.slots) s.per_epoch s.per_sweep && nat_le s.epoch last_epoch

unfoldable pub sound_tasks : State → Bool
sound_tasks s = all (sound_task s.epoch (length s.blocks)) s.tasks

unfoldable pub sound_blocks : State → Bool
sound_blocks s = all (sound_block s.epoch (length s.tasks)) s.blocks

unfoldable pub sound_slots : State → Bool
sound_slots s = all (sound_slot s) s.slots

unfoldable pub sound_state : State → Bool
sound_state s = sound_numbers s && sound_tasks s && sound_blocks s && sound_slots s
