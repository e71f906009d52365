-- `schedule::checked_tag`: each kind follows from the checks before it. Assumes nothing.
use Rattle.std.proofs.Common.{arith}
use Rattle.std.proofs.lemmas.Result.{err_from_is_err_and}
use Rattle.schedule.proofs.Faults.{cut, unknown, other, past, none}
use Rattle.schedule.proofs.Errors.{its_error}
use Rattle.schedule.proofs.TagBytes.{in_some, in_none}
use Rattle.schedule.proofs.checked_tag.Goals as goal

pub returns-then-left-lt-HEAD-clause-kind : goal.returns-then-left-lt-HEAD-clause-kind
returns-then-left-lt-HEAD-clause-kind c = cut _ _ _ (omega arith)

pub returns-in_err-tag-clause-kind : goal.returns-in_err-tag-clause-kind
returns-in_err-tag-clause-kind c =
    let p = err_from_is_err_and c.from_residual.result c.from_residual.ensures.1 in
    rw (p.1, p.2, its_error c.of.result c.in_err-tag.ensures.value)
    (unknown _ _ _ (omega arith) (in_none _ c.in_err-tag.ensures.ok_part c.of.ensures))

pub returns-then-length_said-asked-clause-kind : goal.returns-then-length_said-asked-clause-kind
returns-then-length_said-asked-clause-kind c =
    let t = in_some _ c.in_ok-tag.ensures.ok_part c.of.ensures in
    other _ _ _ (omega arith) t.known (λ e. omega (arith, t.same))

pub returns-then-left-asked-clause-kind : goal.returns-then-left-asked-clause-kind
returns-then-left-asked-clause-kind c =
    let t = in_some _ c.in_ok-tag.ensures.ok_part c.of.ensures in
    past _ _ _ (omega arith) t.known (omega (arith, t.same)) (omega (arith, t.same))

pub returns-clause-kind : goal.returns-clause-kind
returns-clause-kind c =
    let t = in_some _ c.in_ok-tag.ensures.ok_part c.of.ensures in
    none _ _ _ (omega arith) t.known (omega (arith, t.same)) (omega (arith, t.same))
