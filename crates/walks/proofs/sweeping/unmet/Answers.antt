-- `walks::sweeping::unmet`: the tasks from the first on decide. Assumes nothing.
use Rattle.std.proofs.Common.{rules, refl}
use Rattle.rules.specs.Sweeping.{unmet}
use Rattle.walks.proofs.sweeping.unmet.Goals as goal

pub loop-i-init : goal.loop-i-init
unfolding unmet
loop-i-init c = (search rules, search rules, refl)
