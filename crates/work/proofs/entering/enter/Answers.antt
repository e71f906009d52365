-- `work::entering::enter`: no such task, or another phase. Assumes nothing.
use Rattle.std.proofs.Common.{arith, sym, ap, ◌∙◌}
use Rattle.rules.specs.OnTable.{in_words}
use Rattle.work.proofs.Entries.{refused, no_task_lem, wrong-phase}
use Rattle.work.proofs.entering.enter.Goals as goal

pub returns-then-task-tasks-clause-entered : goal.returns-then-task-tasks-clause-entered
returns-then-task-tasks-clause-entered g c = λ test asks rest.
    refused _ c.requires.sound 3 ∙ ap in_words (sym (no_task_lem _ _ _ rest (omega arith)))

pub returns-clause-entered : goal.returns-clause-entered
returns-clause-entered g c = λ test asks rest.
    let said = sym (asks c.task_at-r.result _ c.asked.ensures ∙ ap test c.task_at-r.ensures) ∙ c.if-asked.false in
    refused _ c.requires.sound 4 ∙ ap in_words (sym (wrong-phase _ _ _ rest (omega arith) said))
