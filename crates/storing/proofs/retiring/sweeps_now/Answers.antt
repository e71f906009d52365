-- `storing::retiring::sweeps_now`: the number of retired blocks, divisible or not. Assumes nothing.
use Rattle.std.proofs.Common.{ap₂}
use Rattle.rules.specs.Steps.{divisible, retired_count}
use Rattle.storing.proofs.retiring.sweeps_now.Goals as goal

pub returns : goal.returns
unfolding retired_count
returns c = ap₂ divisible c.retired_by.ensures c.per_sweep.ensures
