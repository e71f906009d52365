-- `soundness::is_sound`: another length, or what the four tests say. Assumes nothing.
use Rattle.std.proofs.Common.{◌≡◌, true, sym, ◌∙◌}
use Rattle.table.specs.Soundness.{sound_state}
use Rattle.table.specs.Words.{is_exact, sound}
use Rattle.soundness.proofs.is_sound.Goals as goal

pub returns-then-is_exact : goal.returns-then-is_exact
unfolding sound sound_state
returns-then-is_exact c =
    let exact : is_exact c.args.table.now ≡ true = sym c.is_exact.ensures ∙ c.if-is_exact.true in
    rw (exact, c.numbers_sound.ensures, c.tasks_sound.ensures, c.blocks_sound.ensures, c.slots_sound.ensures)

pub returns-else-is_exact : goal.returns-else-is_exact
unfolding sound
returns-else-is_exact c = rw (← c.is_exact.ensures, c.if-is_exact.false)
