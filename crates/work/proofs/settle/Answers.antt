-- `work::settle`: refused on entering, the candidate handed out, or look again. Assumes nothing.
use Rattle.std.proofs.Common.{ℕ, ◌≡◌, rules, arith, sym, ap, ◌∙◌}
use borrow.Author.Tests.{eq-eqb, ne_eqb, eqb-true, eqb-false}
use Rattle.table.specs.State.{is_looking}
use Rattle.rules.specs.OnTable.{result_of}
use Rattle.work.proofs.Entries.{out}
use Rattle.work.proofs.Cases.{settle_enters, settle_done_lem, settle_again}
use Rattle.work.proofs.settle.Goals as goal

pub returns-in_err-r : goal.returns-in_err-r
returns-in_err-r c = out _ _ is_looking (search rules) (c.in_err-r.ensures.entered is_looking (λ r b q. search rules)) _ (settle_enters _ _)

pub returns-then-eq : goal.returns-then-eq
returns-then-eq c =
    let inside = c.in_ok-r.ensures.entered is_looking (λ r b q. search rules) in
    ap (λ (v : ℕ). result_of 0 v c.put_task.new.table) c.candidate.ensures
    ∙ settle_done_lem _ _ _ inside _ _ _ c.epoch-now.ensures c.settled.ensures c.put_task.ensures (eq-eqb _ _ (omega (arith, eqb-true _ _ (sym c.eq.ensures ∙ c.if-eq.true))))

pub returns : goal.returns
returns c =
    let inside = c.in_ok-r.ensures.entered is_looking (λ r b q. search rules) in
    settle_again _ _ _ inside _ _ _ c.epoch-now.ensures c.settled.ensures c.put_task.ensures (ne_eqb _ _ (λ e. eqb-false _ _ (sym c.eq.ensures ∙ c.if-eq.false) (omega (arith, e))))
