-- `storing::retiring::put_retired`: the block retired, and swept after it where a sweep follows. Assumes nothing.
use Rattle.std.proofs.Common.{◌≡◌, ◌≤◌, ℕ, Bool, List, sym, ap, ap₂, ◌∙◌, subst}
use Rattle.table.specs.State.{State, BlockRow, block_of, with_block}
use Rattle.table.specs.Words.{state_of, words}
use Rattle.table.proofs.Places.{says}
use Rattle.rules.specs.Effects.{retired}
use Rattle.rules.specs.Sweeping.{freed_by, swept}
use Rattle.rules.specs.Steps.{retired_in, sweeps_now}
use Rattle.rules.specs.OnTable.{result_of}
use Rattle.storing.proofs.retiring.put_retired.Goals as goal

-- the words once the block is retired, and whether a sweep follows
module _ (t : List ℕ) (b : ℕ) {u : List ℕ} {k now : ℕ} {x r : BlockRow} (w : u ≡ words (with_block (state_of t) b x)) (e : x ≡ retired k now r) (n : now ≡ (state_of t).epoch)
    (q : r ≡ block_of (state_of t) b) where
  put : u ≡ words (retired_in (state_of t) k b)
  put = w ∙ ap (λ (y : BlockRow). words (with_block (state_of t) b y)) (e ∙ ap₂ (retired k) n q)

  state : state_of u ≡ retired_in (state_of t) k b
  state = (says _ _ put).1

  said : {s : Bool} → s ≡ sweeps_now (state_of u) k → sweeps_now (retired_in (state_of t) k b) k ≡ s
  said h = ap (λ (y : State). sweeps_now y k) (sym state) ∙ sym h

pub sweeps_now-requires : goal.sweeps_now-requires
sweeps_now-requires c =
    let a = c.args in
    let t = says _ _ (put a.table.now a.block.0 c.put_block.ensures c.retired.ensures c.epoch-now.ensures c.block_at-b.ensures) in
    (t.0, subst (λ (u : State). 1 ≤ u.per_sweep) (sym t.1) c.requires.3)

pub sweep_blocks-requires : goal.sweep_blocks-requires
sweep_blocks-requires c =
    let a = c.args in
    (says _ _ (put a.table.now a.block.0 c.put_block.ensures c.retired.ensures c.epoch-now.ensures c.block_at-b.ensures)).0

pub returns-then-sweeps_now : goal.returns-then-sweeps_now
returns-then-sweeps_now c =
    let a = c.args in
    let k = c.args.task.0 in
    let d = c.sweep_blocks.ensures in
    let s = state a.table.now a.block.0 c.put_block.ensures c.retired.ensures c.epoch-now.ensures c.block_at-b.ensures in
    let f = said a.table.now a.block.0 c.put_block.ensures c.retired.ensures c.epoch-now.ensures c.block_at-b.ensures c.sweeps_now.ensures in
    ap₂ (result_of 0) (d.0 ∙ ap (λ (u : State). freed_by u k) s) (d.1 ∙ ap (λ (u : State). words (swept u k)) s) ∙ rw (f ∙ c.if-sweeps_now.true)

pub returns-else-sweeps_now : goal.returns-else-sweeps_now
returns-else-sweeps_now c =
    let a = c.args in
    let p = put a.table.now a.block.0 c.put_block.ensures c.retired.ensures c.epoch-now.ensures c.block_at-b.ensures in
    let f = said a.table.now a.block.0 c.put_block.ensures c.retired.ensures c.epoch-now.ensures c.block_at-b.ensures c.sweeps_now.ensures in
    ap (result_of 0 0) p ∙ rw (f ∙ c.if-sweeps_now.false)
