-- `work::sweep`: refused on entering, or done. Assumes nothing.
use Rattle.std.proofs.Common.{true, rules, ap₂, ◌∙◌}
use Rattle.rules.specs.OnTable.{result_of}
use Rattle.work.proofs.Entries.{out}
use Rattle.work.proofs.Cases.{sweep_enters, sweep_done_lem}
use Rattle.work.proofs.sweep.Goals as goal

pub returns-in_err-enter : goal.returns-in_err-enter
returns-in_err-enter c = out _ _ (λ _. true) (search rules) (c.in_err-enter.ensures.entered (λ _. true) (λ r b q. search rules)) _ (sweep_enters _ _)

pub returns : goal.returns
returns c =
    ap₂ (result_of 0) c.sweep_blocks.ensures.0 c.sweep_blocks.ensures.1
    ∙ sweep_done_lem _ _ _ (c.in_ok-enter.ensures.entered (λ _. true) (λ r b q. search rules))
