-- `walks::sweeping::sweep_block`: a block that is not freed stays as it is. Assumes nothing.
use Rattle.std.proofs.Common.{◌≡◌, false, sym, ap, ◌∙◌}
use Rattle.table.specs.State.{block_of}
use Rattle.table.specs.Words.{state_of}
use Rattle.table.proofs.Places.{block_same}
use Rattle.rules.specs.Sweeping.{frees}
use Rattle.walks.proofs.sweeping.sweep_block.Goals as goal

pub returns-else-frees : goal.returns-else-frees
returns-else-frees c =
    let a = c.args in
    let s = state_of a.table.now in
    let said = c.frees-frees.ensures ∙ ap (frees s.tasks a.task.0) c.block_at.ensures in
    let kept : frees s.tasks a.task.0 (block_of s a.block.0) ≡ false = sym said ∙ c.if-frees.false in
    (said, rw kept (block_same _ c.requires.0 a.block.0))
