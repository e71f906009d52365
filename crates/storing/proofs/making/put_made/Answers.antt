-- `storing::making::put_made`: the epoch, then the task, then the block. Assumes nothing.
use Rattle.std.proofs.Common.{◌≡◌, ◌≤◌, ◌<◌, ℕ, List, sym, ap, ap₂, ◌∙◌, subst, length}
use Rattle.table.specs.State.{State, TaskRow, BlockRow, task_of, with_epoch, with_task, with_block}
use Rattle.table.specs.Words.{state_of, words}
use Rattle.table.proofs.Places.{says}
use Rattle.rules.specs.Effects.{counted}
use Rattle.storing.proofs.making.put_made.Goals as goal

-- what the words say once the epoch and the task are put
risen : (t : List ℕ) (k : ℕ) {u v : List ℕ} {epoch : ℕ} {x r : TaskRow} → u ≡ words (with_epoch (state_of t) epoch) → v ≡ words (with_task (state_of u) k x) → x ≡ counted r
    → r ≡ task_of (state_of t) k → state_of v ≡ with_task (with_epoch (state_of t) epoch) k (counted (task_of (state_of t) k))
risen t k e w c r = (says _ _ w).1 ∙ ap₂ (λ (s : State) (x : TaskRow). with_task s k x) (says _ _ e).1 (c ∙ ap counted r)

pub put_task-requires : goal.put_task-requires
put_task-requires c =
    let t = says _ _ c.put_epoch.ensures in
    (t.0, subst (λ (u : State). c.args.task.0 < length u.tasks) (sym t.1) c.requires.1)

pub put_block-requires : goal.put_block-requires
put_block-requires c =
    let e = risen c.args.table.now c.args.task.0 c.put_epoch.ensures c.put_task.ensures c.counted.ensures c.requires.2 in
    ((says _ _ c.put_task.ensures).0, c.requires.4, subst (λ (u : State). c.args.block.0 ≤ length u.blocks) (sym e) c.requires.5)

pub returns : goal.returns
returns c =
    let e = risen c.args.table.now c.args.task.0 c.put_epoch.ensures c.put_task.ensures c.counted.ensures c.requires.2 in
    c.put_block.ensures ∙ ap₂ (λ (u : State) (x : BlockRow). words (with_block u c.args.block.0 x)) e c.made.ensures
