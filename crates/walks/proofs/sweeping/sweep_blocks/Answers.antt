-- `walks::sweeping::sweep_blocks`: one block more is swept and counted. Assumes nothing.
use Rattle.std.proofs.Common.{◌≡◌, ℕ, ◌+◌, ◌<◌, rules, arith, sym, ap, ◌∙◌, List, length, get_or, drop}
use Rattle.table.specs.Lists.{count}
use Rattle.table.specs.State.{State, BlockRow, block_of, free_block, with_blocks, with_block}
use Rattle.table.specs.Words.{state_of, words}
use Rattle.rules.specs.Sweeping.{frees, after_sweep}
use Rattle.table.proofs.ByPlace.{from_next, put_next}
use Rattle.table.proofs.Places.{exact_words, words-state_of, state_of-words}
use Rattle.table.proofs.Along.{ended, count-step, along, along_none, along_length, along_at, along_step, along_all}
use Rattle.walks.proofs.sweeping.sweep_blocks.Goals as goal

abbrev turned : State → (k i : ℕ) → State
turned s k i = with_blocks s (along (after_sweep s.tasks k) i s.blocks)

module _ (s : State) (k i : ℕ) where
  at_hand : block_of (turned s k i) (i + 1) ≡ get_or s.blocks i free_block
  at_hand = from_next (turned s k i).blocks i free_block ∙ along_at (after_sweep s.tasks k) i s.blocks free_block

  turn : i < length s.blocks → with_block (turned s k i) (i + 1) (after_sweep s.tasks k (block_of (turned s k i) (i + 1))) ≡ turned s k (i + 1)
  turn h = ap (with_blocks s) (rw at_hand (put_next (turned s k i).blocks i _ ∙ along_step (after_sweep s.tasks k) i s.blocks free_block h))

pub loop-i-init : goal.loop-i-init
loop-i-init c =
    let t = c.args.table.now in
    (omega arith, search rules, omega arith, omega arith, sym (words-state_of t c.requires) ∙ ap (λ (bs : List BlockRow). words (with_blocks (state_of t) bs)) (sym (along_none _ (state_of t).blocks)))

pub sweep_block-requires : goal.sweep_block-requires
sweep_block-requires c =
    let s = state_of c.args.table.now in
    let k = c.args.task.0 in
    let head : state_of c.loop-i.table ≡ turned s k c.loop-i.i = ap state_of c.loop-i.invariant.4 ∙ state_of-words _ in
    let l = ap (λ (u : State). length u.blocks) head ∙ along_length (after_sweep s.tasks k) c.loop-i.i s.blocks in
    (rw c.loop-i.invariant.4 (exact_words _), omega arith, omega arith)

pub loop-i-preserved : goal.loop-i-preserved
loop-i-preserved c =
    let s = state_of c.args.table.now in
    let k = c.args.task.0 in
    let i = c.loop-i.i in
    let head : state_of c.loop-i.table ≡ turned s k i = ap state_of c.loop-i.invariant.4 ∙ state_of-words _ in
    let answered : c.sweep_block.result ≡ frees s.tasks k (get_or s.blocks i free_block) =
    c.sweep_block.ensures.0 ∙ ap (λ (u : State). frees u.tasks k (block_of u (i + 1))) head ∙ ap (frees s.tasks k) (at_hand s k i) in (
      omega arith,
      search rules,
      search rules,
      rw c.from-freed.ensures (sym (count-step (frees s.tasks k) s.blocks i c.loop-i.freed free_block c.sweep_block.result (omega arith) answered) ∙ c.loop-i.invariant.3),
      c.sweep_block.ensures.1
          ∙ ap (λ (u : State). words (with_block u (i + 1) (after_sweep u.tasks k (block_of u (i + 1))))) head
          ∙ ap words (turn s k i (omega arith)),
    )

pub returns : goal.returns
returns c =
    let s = state_of c.args.table.now in
    let k = c.args.task.0 in
    let none : count (frees s.tasks k) (drop c.loop-i.i s.blocks) ≡ 0 = rw (ended s.blocks c.loop-i.i (omega arith)) in
    (omega arith, c.loop-i.invariant.4 ∙ ap (λ (bs : List BlockRow). words (with_blocks s bs)) (along_all (after_sweep s.tasks k) c.loop-i.i s.blocks (omega arith)))
