-- `write::Draft::add`: a write's value is a place of the buffer, or its end. Assumes nothing.
use Rattle.std.proofs.Common.{arith}
use Rattle.schedule.proofs.RoundTrip.{value-within}
use Rattle.write.proofs.Draft.add.Goals as goal

pub invariant_of-self-2 : goal.invariant_of-self-2
invariant_of-self-2 c =
    let v = value-within _ _ _ _ c.in_ok-self.ensures in
    record { within = omega (arith, v) }
