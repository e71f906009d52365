-- `lines::read_text`: each answer is the one of its case. Assumes nothing.
use Rattle.std.proofs.Common.{refl, sym, ap, eqb-true}
use Rattle.std.proofs.lemmas.Bool.{eqb-false}
use Rattle.std.proofs.lemmas.Result.{err_from_is_err_and}
use Rattle.schedule.specs.Fields.{length_of}
use Rattle.schedule.proofs.Errors.{its_error}
use Rattle.schedule.proofs.TagBytes.{known}
use Rattle.lines.proofs.Texts.{blank, unknown, step, no_step}
use Rattle.lines.proofs.read_text.Goals as goal

pub returns-then-is_empty : goal.returns-then-is_empty
returns-then-is_empty c = blank _ c.split_word.ensures.word (eqb-true _ _ (sym c.if-is_empty.ensures))

pub returns-in_err-tag : goal.returns-in_err-tag
returns-in_err-tag c =
    let p = err_from_is_err_and c.from_residual.result c.from_residual.ensures.1 in
    let named = rw c.in_err-tag.ensures.ok_part at c.tag_of.ensures in
    rw (p.1, p.2, its_error c.tag_of.result c.in_err-tag.ensures.value)
    (unknown _ c.split_word.ensures.word (eqb-false _ _ (sym c.if-is_empty.ensures)) named refl)

pub returns-in_err-numbers : goal.returns-in_err-numbers
returns-in_err-numbers c =
    let p = err_from_is_err_and c.from_residual-in_err-numbers.result c.from_residual-in_err-numbers.ensures.1 in
    let named = rw c.in_ok-tag.ensures.ok_part at c.tag_of.ensures in
    rw (p.1, p.2)
    (no_step _ c.split_word.ensures.word (eqb-false _ _ (sym c.if-is_empty.ensures)) named (λ z. known c.in_ok-tag.tag (ap length_of z))
    c.split_word.ensures.rest refl c.in_err-numbers.ensures refl)

pub returns : goal.returns
returns c =
    let named = rw c.in_ok-tag.ensures.ok_part at c.tag_of.ensures in
    step _ c.split_word.ensures.word (eqb-false _ _ (sym c.if-is_empty.ensures)) named (λ z. known c.in_ok-tag.tag (ap length_of z))
    c.split_word.ensures.rest refl c.in_ok-numbers.ensures refl
