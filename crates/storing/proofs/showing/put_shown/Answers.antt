-- `storing::showing::put_shown`: the slot, then the block that it gets. Assumes nothing.
use Rattle.std.proofs.Common.{◌≤◌, rules, tests, sym, ap, ◌∙◌, subst, length}
use Rattle.table.specs.State.{State, block_of, with_block}
use Rattle.table.specs.Words.{words}
use Rattle.table.proofs.Places.{says}
use Rattle.rules.specs.Effects.{shown_if_made}
use Rattle.storing.proofs.showing.put_shown.Goals as goal

pub show-requires : goal.show-requires
show-requires c =
    let t = says _ _ c.put_slot.ensures in
    (t.0, search (rules, tests), subst (λ (u : State). c.args.block.0 ≤ length u.blocks) (sym t.1) c.requires.2)

pub returns-then-ne : goal.returns-then-ne
returns-then-ne c =
    let b = c.args.block.0 in
    c.show.ensures ∙ ap (λ (u : State). words (with_block u b (shown_if_made (block_of u b)))) (says _ _ c.put_slot.ensures).1
