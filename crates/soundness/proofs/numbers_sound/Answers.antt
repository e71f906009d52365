-- `soundness::numbers_sound`: each number tested is the one that the state says. Assumes nothing.
use Rattle.std.proofs.Common.{rules}
use Rattle.table.specs.Soundness.{sound_numbers}
use Rattle.table.proofs.Places.{tasks_read, blocks_read, slots_read}
use Rattle.soundness.proofs.numbers_sound.Goals as goal

pub returns : goal.returns
unfolding sound_numbers
returns c = search (rules, tasks_read, blocks_read, slots_read)
