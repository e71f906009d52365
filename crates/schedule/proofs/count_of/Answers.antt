-- `schedule::count_of`: a byte that no tag is written as has no numbers. Assumes nothing.
use Rattle.std.proofs.Common.{arith}
use Rattle.schedule.proofs.TagBytes.{in_none}
use Rattle.schedule.proofs.count_of.Goals as goal

pub returns-in-None : goal.returns-in-None
returns-in-None c = let z = in_none _ c.in-None.is c.of.ensures in omega (arith, z)
