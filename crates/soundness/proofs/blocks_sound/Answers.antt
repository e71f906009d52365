-- `soundness::blocks_sound`: each block's test is made of the words that stand at its place. Assumes nothing.
use Rattle.std.proofs.Common.{rules, length, get_or}
use Rattle.table.specs.State.{free_block}
use Rattle.table.specs.Soundness.{sound_block, sound_blocks}
use Rattle.table.proofs.ByPlace.{from_next}
use Rattle.table.specs.Words.{state_of}
use Rattle.table.proofs.Ranges.{every_place}
use Rattle.soundness.proofs.blocks_sound.Goals as goal

pub returns : goal.returns
unfolding sound_blocks
returns c =
    let s = state_of c.args.table.now in
    let sound = sound_block s.epoch (length s.tasks) in
    every_place sound s.blocks free_block c.every.result c.blocks-2.ensures (c.every.ensures (λ i. sound (get_or s.blocks i free_block)) (λ i b l k. search (rules, from_next s.blocks i free_block)))
