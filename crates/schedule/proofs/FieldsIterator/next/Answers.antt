-- `schedule::Fields::next`: the field at the place, and fewer bytes left after it. Assumes nothing.
use Rattle.std.proofs.Common.{arith, rules, sym}
use Rattle.schedule.proofs.Stands.{stands}
use Rattle.schedule.proofs.FieldsIterator.next.Goals as goal

pub returns-in_err-read-clause-steps : goal.returns-in_err-read-clause-steps
returns-in_err-read-clause-steps c =
    rw c.from_residual.ensures (sym c.in_err-read.ensures.field, stands c.args.self.now.schedule.now c.args.self.now.place c.in_err-read.ensures.field)

pub returns-in-Ok-clause-goes : goal.returns-in-Ok-clause-goes
returns-in-Ok-clause-goes c =
    let f = rw c.in-Ok.is at c.in_ok-read.ensures.field in
    let w = stands c.args.self.now.schedule.now c.args.self.now.place f in
    record { on = λ h. (search rules, search rules, omega arith); keeps = search rules; rests = λ h. search rules }

pub returns-in-Err-clause-goes : goal.returns-in-Err-clause-goes
returns-in-Err-clause-goes c =
    let f = rw c.in-Err.is at c.in_ok-read.ensures.field in
    let w = stands c.args.self.now.schedule.now c.args.self.now.place f in
    record { on = λ h. (search rules, search rules, omega arith); keeps = search rules; rests = λ h. search rules }
