-- `lines::values::numbers_from`: one number more, what is wrong with it, or a word too many. Assumes nothing.
use Rattle.std.proofs.Common.{◌≡◌, ◌≢◌, ◌<◌, ◌-◌, length, arith, refl, sym, ap, ◌∙◌, add-one, get_or-set_other, length-set, eqb-true}
use Rattle.std.proofs.lemmas.Bool.{eqb-false}
use Rattle.std.proofs.Math.Seq.{take-suc-set}
use Rattle.std.proofs.lemmas.Result.{err_from_is_err_and}
use Rattle.schedule.specs.Tags.{tag_number}
use Rattle.schedule.specs.Writing.{count_of}
use Rattle.lines.specs.Values.{Are, told}
use Rattle.lines.proofs.Cases.{too_few, a_word}
use Rattle.lines.proofs.Many.{zeros, wrong_at, one_on, one_too_many, all_read, five_read}
use Rattle.lines.proofs.values.numbers_from.Goals as goal

pub loop-i-init : goal.loop-i-init
loop-i-init c =
    let whole : count_of (tag_number c.args.tag) - 0 ≡ count_of (tag_number c.args.tag) = omega arith in
    (record { same = rw whole }, zeros 5, refl)

pub returns-then-is_empty : goal.returns-then-is_empty
returns-then-is_empty c = wrong_at c.loop-i.invariant.0 (λ z. omega (arith, c.count-i-end.ensures.0)) (too_few _ c.split_word.ensures.word (eqb-true _ _ (sym c.if-is_empty.ensures)))

pub returns-in_err-numbers : goal.returns-in_err-numbers
returns-in_err-numbers c =
    let p = err_from_is_err_and c.from_residual.result c.from_residual.ensures.1 in
    rw (p.1, p.2)
    (wrong_at c.loop-i.invariant.0 (λ z. omega (arith, c.count-i-end.ensures.0))
    (a_word _ c.split_word.ensures.word (eqb-false _ _ (sym c.if-is_empty.ensures)) c.in_err-numbers.ensures))

pub loop-i-preserved : goal.loop-i-preserved
loop-i-preserved c =
    let room : c.loop-i.i < length c.loop-i.numbers = omega arith in (
      rw (add-one c.loop-i.i, take-suc-set c.loop-i.numbers c.loop-i.i c.in_ok-numbers.field-0 room)
          (one_on c.loop-i.invariant.0 (λ z. omega (arith, c.count-i-end.ensures.0))
          (a_word _ c.split_word.ensures.word (eqb-false _ _ (sym c.if-is_empty.ensures)) c.in_ok-numbers.ensures) c.split_word.ensures.rest (omega (arith, c.count-i-end.ensures.0))),
      λ k h. let ne : k ≢ c.loop-i.i = omega arith in rw get_or-set_other (c.loop-i.invariant.1 k (omega arith)),
      simp length-set c.loop-i.invariant.2,
    )

pub returns-then-not-is_empty : goal.returns-then-not-is_empty
returns-then-not-is_empty c =
    one_too_many c.loop-i.invariant.0 (omega (arith, c.count-i-end.ensures.0)) c.split_word-2.ensures.word (eqb-false _ _ (sym c.if-not-is_empty.ensures))

pub returns : goal.returns
returns c =
    let none : count_of (tag_number c.args.tag) - c.loop-i.i ≡ 0 = omega (arith, c.count-i-end.ensures.0) in
    ap Are (five_read c.loop-i.numbers c.loop-i.i c.loop-i.invariant.1)
    ∙ sym (ap told (all_read c.loop-i.invariant.0 none c.split_word-2.ensures.word (eqb-true _ _ (sym c.if-not-is_empty.ensures))))
