-- The fields of a schedule, one after another: what a reader that has reached a place gives next, and where it is then. Assumes nothing.
use Rattle.std.specs.Prelude.{◌≡◌, ◌≤◌, length, Option, Some, None, Result, Ok, Err}
use Rattle.schedule.specs.declared.Fault.{Fault as ReadFault}
use Rattle.schedule.specs.declared.Fields.{Fields}
use Rattle.schedule.specs.declared.Step.{Step as ReadStep}
use Rattle.schedule.specs.Fields.{Step, Fault, End, field_at}
use Rattle.schedule.specs.Said.{fault_number}
use Rattle.schedule.specs.Tags.{tag_number}
use Rattle.schedule.specs.Writing.{five_of}

-- a reader that gives no more: it has no bytes left
abbrev pub IsDone : Fields → Type 0
IsDone reader = length reader.schedule.now ≤ reader.place

-- a step is the field at the place, and the place then is the one after it; after a fault, and at the end, no more comes
abbrev pub GivesField : Fields → Option (Result ReadStep ReadFault) → Fields → Type 0
GivesField old (Some (Ok step)) new =
    (field_at old.schedule.now old.place ≡ Step (tag_number step.tag) (five_of step.numbers) new.place) × (new.schedule.now ≡ old.schedule.now)
GivesField old (Some (Err fault)) new = (field_at old.schedule.now old.place ≡ Fault (fault_number fault.kind) fault.tag) × (fault.place ≡ old.place) × IsDone new
GivesField old None new = (field_at old.schedule.now old.place ≡ End) × IsDone new
