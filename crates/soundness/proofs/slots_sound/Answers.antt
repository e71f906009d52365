-- `soundness::slots_sound`: each slot's test is made of the words that stand at its place. Assumes nothing.
use Rattle.std.proofs.Common.{rules, get_or}
use Rattle.table.specs.Soundness.{sound_slot, sound_slots}
use Rattle.table.specs.Words.{state_of}
use Rattle.table.proofs.Ranges.{every_place}
use Rattle.soundness.proofs.slots_sound.Goals as goal

pub returns : goal.returns
unfolding sound_slots
returns c =
    let s = state_of c.args.table.now in
    let sound = sound_slot s in
    every_place sound s.slots 0 c.every.result c.slots.ensures (c.every.ensures (λ i. sound (get_or s.slots i 0)) (λ i b l k. search (rules)))
