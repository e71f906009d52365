-- `runner::carry_out`: a step before an accepted open, and a step on the table that is there; the buffer is ready after it. Assumes nothing.
use Rattle.std.proofs.Common.{arith, rules}
use Rattle.runner.proofs.Carrying.{not_open, no_table}
use Rattle.runner.proofs.KeptReady.{stepped_ready}
use Rattle.runner.proofs.carry_out.Goals as goal

pub returns-then-used-eq0-clause-carried : goal.returns-then-used-eq0-clause-carried
returns-then-used-eq0-clause-carried c = rw (not_open c.args.field (search rules)) (no_table _ _ _ c.if-used-eq0.true)

pub returns-clause-carried : goal.returns-clause-carried
returns-clause-carried c = rw (not_open c.args.field (search rules)) (stepped_ready c.requires c.step-answer.result _ (λ z. omega arith) c.step-answer.ensures).0

pub returns-clause-ready : goal.returns-clause-ready
returns-clause-ready c = (stepped_ready c.requires c.step-answer.result _ (λ z. omega arith) c.step-answer.ensures).1
