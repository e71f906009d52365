-- `lines::values::numbers_from`: the numbers read so far, before those of the text that is left, are those of the whole. Assumes nothing.
use Rattle.std.proofs.Common.{◌≡◌, ◌-◌, length, take}
use Rattle.schedule.specs.Tags.{tag_number}
use Rattle.schedule.specs.Writing.{count_of}
use Rattle.lines.specs.Values.{numbers_from}
use Rattle.lines.proofs.Many.{SoFar, ZeroFrom}
use Rattle.lines.proofs.values.numbers_from.Given as goal

abbrev pub invariant-loop-i : goal.invariant-loop-i
invariant-loop-i l =
    SoFar (numbers_from (count_of (tag_number l.fn.tag)) l.fn.text) (take l.i l.numbers) (count_of (tag_number l.fn.tag) - l.i) l.left
    × ZeroFrom l.i l.numbers
    × (length l.numbers ≡ 5)
