-- The byte that each tag is written as (01, "Schedule files"). Assumes nothing.
use Rattle.std.specs.Prelude.{ℕ, ◌≢◌}
use Rattle.schedule.specs.declared.tags.Tag.{Tag}
use Rattle.schedule.specs.declared.tags.Tag.TheVariants.{Open, Start, Look, Settle, Make, Swap, Retire, Sweep, End, Tally}

abbrev pub tag_number : Tag → ℕ
tag_number Open = 1
tag_number Start = 2
tag_number Look = 3
tag_number Settle = 4
tag_number Make = 5
tag_number Swap = 6
tag_number Retire = 7
tag_number Sweep = 8
tag_number End = 9
tag_number Tally = 10

-- a byte that no tag is written as
abbrev pub Unknown : (byte : ℕ) → Type 0
Unknown byte = (tag : Tag) → tag_number tag ≢ byte
