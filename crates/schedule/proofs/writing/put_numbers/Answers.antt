-- `schedule::writing::put_numbers`: the number at i is put behind those before it. Assumes nothing.
use Rattle.std.proofs.Common.{arith, refl, sym, ap, ◌∙◌, ◌≤◌, ◌*◌, length, take_all}
use Rattle.schedule.specs.Writing.{body_of}
use Rattle.schedule.proofs.Stores.{four_bytes, body_next}
use Rattle.schedule.proofs.writing.put_numbers.Goals as goal

pub loop-i-init : goal.loop-i-init
unfolding body_of
loop-i-init c = refl

pub loop-i-preserved : goal.loop-i-preserved
loop-i-preserved c =
    body_next c.args.numbers.now c.loop-i.body _ c.loop-i.i _ c.loop-i-test.true
    (c.copy_from_slice.ensures.after ∙ c.to_be_bytes.ensures ∙ four_bytes _) (omega arith) (omega arith) c.loop-i.invariant

pub returns : goal.returns
returns c =
    let whole : length c.loop-i.body ≤ 4 * c.loop-i.i = omega arith in
    sym (take_all _ c.loop-i.body whole) ∙ c.loop-i.invariant ∙ ap body_of (take_all _ c.args.numbers.now (omega arith))
