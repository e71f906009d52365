-- What the code's answers say: the minutes, or the number of the refusal. Assumes nothing.
use Rattle.std.specs.Prelude.{ℕ, ℤ, pos, Result, Ok, Err}
use Rattle.zone_text.specs.declared.ZoneError.{ZoneError}
use Rattle.zone_text.specs.declared.ZoneError.TheVariants.{OutOfRange, NoRecord, NotAZone, NotFiveBytes}
use Rattle.zone_text.specs.Answered.{ZoneMinutes}
use Rattle.zone_text.specs.Zone.{zone_minutes}

-- the refusals' numbers
abbrev pub number_of : ZoneError → ℕ
number_of OutOfRange = 30
number_of NoRecord = 31
number_of NotAZone = 32
number_of NotFiveBytes = 33

-- the kind of an answer: 0 where it isn't a refusal
abbrev pub kind_said : {A : Type 0} → Result A ZoneError → ℕ
kind_said (Ok a) = 0
kind_said (Err e) = number_of e

-- a refusal says 0 minutes
abbrev pub said : Result ℤ ZoneError → ZoneMinutes
said (Ok z) = zone_minutes 0 z
said (Err e) = zone_minutes (number_of e) (pos 0)
