-- `schedule::writing::write_field`: a refusal, or the field in its place. Assumes nothing.
use Rattle.std.proofs.Common.{arith, ap, refl, sym, ◌∙◌}
use Rattle.std.proofs.lemmas.Result.{err_from_is_err_and}
use Rattle.schedule.specs.Writing.{field_of}
use Rattle.schedule.proofs.Errors.{its_error}
use Rattle.schedule.proofs.Refusals.{unknown, other, no_room, none}
use Rattle.schedule.proofs.TagBytes.{in_some, in_none}
use Rattle.schedule.proofs.Writes.{refused, done}
use Rattle.schedule.proofs.writing.write_field.Goals as goal

pub returns-in_err-tag : goal.returns-in_err-tag
returns-in_err-tag c =
    let p = err_from_is_err_and c.from_residual.result c.from_residual.ensures.1 in
    rw (p.1, p.2, its_error c.of.result c.in_err-tag.ensures.value)
    (refused _ _ _ _ (unknown _ _ _ (in_none _ c.in_err-tag.ensures.ok_part c.of.ensures)) (λ e. omega arith))

pub returns-then-numbers-count : goal.returns-then-numbers-count
returns-then-numbers-count c =
    let t = in_some _ c.in_ok-tag.ensures.ok_part c.of.ensures in
    refused _ _ _ _ (other _ _ _ t.known (λ e. omega (arith, t.same))) (λ e. omega arith)

pub returns-then-saturating_sub-size : goal.returns-then-saturating_sub-size
returns-then-saturating_sub-size c =
    let t = in_some _ c.in_ok-tag.ensures.ok_part c.of.ensures in
    refused _ _ _ _ (no_room _ _ _ t.known (omega (arith, t.same)) (omega (arith, t.same))) (λ e. omega arith)

pub returns : goal.returns
returns c =
    let t = in_some _ c.in_ok-tag.ensures.ok_part c.of.ensures in
    done _ _ _ _ (sym (none _ _ _ t.known (omega (arith, t.same)) (omega (arith, t.same)))) refl (c.put_field.ensures ∙ ap (λ k. field_of k c.args.numbers.now) t.is)
    (omega (arith, t.same)) (omega (arith, t.same))
