-- `lines::names::put_name`: a byte that no tag is written as has no name. Assumes nothing.
use Rattle.std.proofs.Common.{refl, arith}
use Rattle.lines.proofs.Table.{no_name}
use Rattle.lines.proofs.names.put_name.Goals as goal

pub returns-in_default : goal.returns-in_default
returns-in_default c = (rw (no_name _ c.in_default.is c.of.ensures) refl, omega arith, refl)
