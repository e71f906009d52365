-- `lines::names::name_length`: a byte that no tag is written as has no name. Assumes nothing.
use Rattle.std.proofs.Common.{refl, arith}
use Rattle.lines.proofs.Table.{no_name}
use Rattle.lines.proofs.names.name_length.Goals as goal

pub returns-in-None : goal.returns-in-None
returns-in-None c = (rw (no_name _ c.in-None.is c.of.ensures) refl, omega arith)
