-- What the reader and the writer hand out, as the fields and outcomes that the definitions speak of. Assumes nothing.
use Rattle.std.specs.Prelude.{ℕ, ◌≡◌, List, Option, Some, None, Result, Ok, Err, codes}
use Rattle.schedule.specs.declared.FaultKind.{FaultKind}
use Rattle.schedule.specs.declared.FaultKind.TheVariants.{CutShort, UnknownTag, OtherLength}
use Rattle.schedule.specs.declared.Fault.{Fault as ReadFault}
use Rattle.schedule.specs.declared.Read.{Read}
use Rattle.schedule.specs.declared.tags.Tag.{Tag}
use Rattle.schedule.specs.declared.writing.WriteRefusal.{WriteRefusal}
use Rattle.schedule.specs.declared.writing.WriteRefusal.TheVariants as refusals
use Rattle.schedule.specs.Fields.{Field, Step, Fault, End}
use Rattle.schedule.specs.Tags.{tag_number}
use Rattle.schedule.specs.Writing.{five_of, Outcome, outcome}

-- the kind of a fault
abbrev pub fault_number : FaultKind → ℕ
fault_number CutShort = 21
fault_number UnknownTag = 22
fault_number OtherLength = 23

-- a fault in words
abbrev pub fault_text : FaultKind → List ℕ
fault_text CutShort = codes "the field is cut short"
fault_text UnknownTag = codes "no step has this tag"
fault_text OtherLength = codes "the length is not the tag's"

-- the kind of a refusal to write
abbrev pub refusal_number : WriteRefusal → ℕ
refusal_number refusals.UnknownTag = 22
refusal_number refusals.OtherCount = 23
refusal_number refusals.NoRoom = 25

-- the kind that a field's checks give: 0 where none fails
abbrev pub checked : Result Tag FaultKind → ℕ
checked (Ok tag) = 0
checked (Err kind) = fault_number kind

-- what the reader finds at a place
abbrev pub said : Option (Result Read ReadFault) → Field
said None = End
said (Some (Ok read)) = Step (tag_number read.step.tag) (five_of read.step.numbers) read.next
said (Some (Err fault)) = Fault (fault_number fault.kind) fault.tag

-- a fault tells the place of its field
abbrev pub FaultAt : (at : ℕ) → Option (Result Read ReadFault) → Type 0
FaultAt at (Some (Err fault)) = fault.place ≡ at
FaultAt at _ = Unit {0}

-- what a write answers and leaves: the place after the field, or a refusal's kind and 0
abbrev pub written : Result ℕ WriteRefusal → List ℕ → Outcome
written (Ok next) buffer = outcome 0 next buffer
written (Err refusal) buffer = outcome (refusal_number refusal) 0 buffer
