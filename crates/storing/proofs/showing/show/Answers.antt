-- `storing::showing::show`: a block that is not made stays as it is. Assumes nothing.
use Rattle.std.proofs.Common.{sym, ap, ◌∙◌}
use Rattle.table.specs.State.{BlockRow, with_block}
use Rattle.table.specs.Words.{state_of, words}
use Rattle.table.proofs.Places.{block_same}
use Rattle.storing.proofs.Shown.{shown_other}
use Rattle.storing.proofs.showing.show.Goals as goal

pub returns-else-eq : goal.returns-else-eq
returns-else-eq c =
    block_same _ c.requires.0 c.args.block.0
    ∙ ap (λ (x : BlockRow). words (with_block (state_of c.args.table.now) c.args.block.0 x)) (shown_other _ _ c.block_at-r.ensures (sym c.eq.ensures ∙ c.if-eq.false))
