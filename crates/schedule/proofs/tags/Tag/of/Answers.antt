-- `schedule::tags::Tag::of`: the table has each tag at its byte less one. Assumes nothing.
use Rattle.std.proofs.Common.{rules, arith, ◌≡◌, suc}
use Rattle.schedule.proofs.TagBytes.{none_at_0, table, found_of}
use Rattle.schedule.proofs.tags.Tag.of.Goals as goal

pub returns-in_err-before : goal.returns-in_err-before
returns-in_err-before c =
    let z : 0 ≡ c.args.byte = omega (arith, c.in_err-before.ensures, c.from.ensures) in
    rw (c.from_residual.ensures, ← z) none_at_0

pub returns : goal.returns
returns c =
    let e : suc c.in_ok-before.before ≡ c.args.byte = omega (arith, c.in_ok-before.ensures.0, c.in_ok-before.ensures.1, c.from.ensures) in
    found_of e (search rules) (table c.in_ok-before.before)
