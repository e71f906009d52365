-- What the code hands out, as the lines, numbers and tags that the definitions speak of. Assumes nothing.
use Rattle.std.specs.Prelude.{ℕ, List, Option, Some, None, Result, Ok, Err, codes}
use Rattle.schedule.specs.declared.Step.{Step as ReadStep}
use Rattle.schedule.specs.declared.tags.Tag.{Tag}
use Rattle.schedule.specs.Tags.{tag_number}
use Rattle.schedule.specs.Writing.{five_of}
use Rattle.lines.specs.declared.Wrong.{Wrong as Complaint}
use Rattle.lines.specs.declared.Wrong.TheVariants.{UnknownStep, NotANumber, TooLarge, TooFewNumbers, TooManyNumbers}
use Rattle.lines.specs.Values.{OneNumber, Value, NoValue, AllNumbers, Are, NotAll}
use Rattle.lines.specs.Lines.{Line, Blank, Step, Wrong}

-- what is wrong with a line, as a number and as a text
abbrev pub wrong_number : Complaint → ℕ
wrong_number UnknownStep = 1
wrong_number NotANumber = 2
wrong_number TooLarge = 3
wrong_number TooFewNumbers = 4
wrong_number TooManyNumbers = 5

abbrev pub complaint : Complaint → List ℕ
complaint UnknownStep = codes "unknown step"
complaint NotANumber = codes "not a number"
complaint TooLarge = codes "a number above 4294967295"
complaint TooFewNumbers = codes "too few numbers"
complaint TooManyNumbers = codes "too many numbers"

-- a word's number, and a step's numbers
abbrev pub one : Result ℕ Complaint → OneNumber
one (Ok value) = Value value
one (Err wrong) = NoValue (wrong_number wrong)

abbrev pub all : Result (List ℕ) Complaint → AllNumbers
all (Ok numbers) = Are (five_of numbers)
all (Err wrong) = NotAll (wrong_number wrong)

-- the tag that a word names; 0 where it names none
abbrev pub found : Option Tag → ℕ
found None = 0
found (Some tag) = tag_number tag

-- a line
abbrev pub said : Result (Option ReadStep) Complaint → Line
said (Ok None) = Blank
said (Ok (Some step)) = Step (tag_number step.tag) (five_of step.numbers)
said (Err wrong) = Wrong (wrong_number wrong)
