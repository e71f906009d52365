-- `schedule::writing::put_numbers`: the numbers so far stand at the start of the body. Assumes nothing.
use Rattle.std.proofs.Common.{◌≡◌, ◌*◌, take}
use Rattle.schedule.specs.Writing.{body_of}
use Rattle.schedule.proofs.writing.put_numbers.Given as goal

abbrev pub invariant-loop-i : goal.invariant-loop-i
invariant-loop-i l = take (4 * l.i) l.body ≡ body_of (take l.i l.numbers)
