-- `soundness::tasks_sound`: each task's test is made of the words that stand at its place. Assumes nothing.
use Rattle.std.proofs.Common.{rules, length, get_or}
use Rattle.table.specs.State.{idle_task}
use Rattle.table.specs.Soundness.{sound_task, sound_tasks}
use Rattle.table.specs.Words.{state_of}
use Rattle.table.proofs.Ranges.{every_place}
use Rattle.soundness.proofs.tasks_sound.Goals as goal

pub returns : goal.returns
unfolding sound_tasks
returns c =
    let s = state_of c.args.table.now in
    let sound = sound_task s.epoch (length s.blocks) in
    every_place sound s.tasks idle_task c.every.result c.tasks.ensures (c.every.ensures (λ i. sound (get_or s.tasks i idle_task)) (λ i b l k. search (rules)))
