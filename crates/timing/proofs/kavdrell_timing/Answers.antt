-- `timing::kavdrell_timing`: after a step the place is behind its field, within the schedule. Assumes nothing.
use Rattle.std.proofs.Common.{List, ℕ, ◌≡◌, ◌≤◌, ◌+◌, ◌∙◌, length, arith, sym, Some, Result, Ok}
use Rattle.schedule.specs.Reading.{GivesField}
use Rattle.schedule.specs.declared.Fields.{Fields}
use Rattle.schedule.specs.declared.Step.{Step}
use Rattle.schedule.specs.declared.Fault.{Fault}
use Rattle.schedule.proofs.Stands.{stands}
use Rattle.timing.proofs.kavdrell_timing.Goals as goal

record Passed (s : List ℕ) (old new : Fields) : Type 0 where
  after : old.place + 3 ≤ new.place
  within : new.place ≤ length s
  same : new.schedule.now ≡ s

passed : (s : List ℕ) (old new : Fields) {field : Result Step Fault} {step : Step} → old.schedule.now ≡ s → field ≡ Ok step → GivesField old (Some field) new → Passed s old new
passed s old new q e gives =
    let h = rw e at gives in
    let w = stands old.schedule.now old.place (sym h.0) in
    record { after = omega (arith, w.after); within = rw (← q) w.within; same = h.1 ∙ q }

pub overflow_add-sum : goal.overflow_add-sum
overflow_add-sum c =
    let w = passed c.args.schedule.now c.loop-field.field-iterator c.next.new.self c.loop-field.invariant.4 c.in-Ok.is c.in-Some.ensures.steps in
    omega (arith, w.after, w.within)

pub loop-field-preserved : goal.loop-field-preserved
loop-field-preserved c =
    let w = passed c.args.schedule.now c.loop-field.field-iterator c.next.new.self c.loop-field.invariant.4 c.in-Ok.is c.in-Some.ensures.steps in
    (tt, tt, omega (arith, w.after), w.within, w.same)
