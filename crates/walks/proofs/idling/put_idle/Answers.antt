-- `walks::idling::put_idle`: one task more is put to rest. Assumes nothing.
use Rattle.std.proofs.Common.{◌≡◌, ℕ, arith, rules, sym, ap, ◌∙◌, List, length}
use Rattle.numbers.specs.Epochs.{idle_mark}
use Rattle.table.specs.State.{State, TaskRow, idle_task, task_of, with_interval, with_tasks, with_task}
use Rattle.table.specs.Words.{state_of, words}
use Rattle.table.proofs.Places.{exact_words, words-state_of, state_of-words}
use Rattle.table.proofs.Along.{along, along_none, along_length, along_at, along_step, along_all}
use Rattle.walks.proofs.idling.put_idle.Goals as goal

abbrev idle : TaskRow → TaskRow
idle = with_interval idle_mark idle_mark

abbrev turned : State → ℕ → State
turned s i = with_tasks s (along idle i s.tasks)

pub loop-i-init : goal.loop-i-init
loop-i-init c =
    let t = c.args.table.now in
    (omega arith, search rules, sym (words-state_of t c.requires) ∙ ap (λ (ts : List TaskRow). words (with_tasks (state_of t) ts)) (sym (along_none idle (state_of t).tasks)))

pub put_interval-requires : goal.put_interval-requires
put_interval-requires c =
    let s = state_of c.args.table.now in
    let head : state_of c.loop-i.table ≡ turned s c.loop-i.i = ap state_of c.loop-i.invariant.2 ∙ state_of-words _ in
    let l = ap (λ (u : State). length u.tasks) head ∙ along_length idle c.loop-i.i s.tasks in
    (rw c.loop-i.invariant.2 (exact_words _), omega arith)

pub loop-i-preserved : goal.loop-i-preserved
loop-i-preserved c =
    let s = state_of c.args.table.now in
    let i = c.loop-i.i in
    let head : state_of c.loop-i.table ≡ turned s i = ap state_of c.loop-i.invariant.2 ∙ state_of-words _ in (
      omega arith,
      search rules,
      c.put_interval.ensures ∙ ap (λ (u : State). words (with_task u i (idle (task_of u i)))) head
          ∙ ap (λ (ts : List TaskRow). words (with_tasks s ts)) (rw (along_at idle i s.tasks idle_task) (along_step idle i s.tasks idle_task (omega arith))),
    )

pub returns : goal.returns
returns c =
    let s = state_of c.args.table.now in
    c.loop-i.invariant.2 ∙ ap (λ (ts : List TaskRow). words (with_tasks s ts)) (along_all idle c.loop-i.i s.tasks (omega arith))
