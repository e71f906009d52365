-- `runner::open`: an open on the words that it is lent, accepted or refused; the buffer is ready after it. Assumes nothing.
use Rattle.runner.proofs.Carrying.{open_ok_is_0, refused_not_0}
use Rattle.runner.proofs.KeptReady.{refused_ready, accepted_ready}
use Rattle.runner.proofs.open.Goals as goal

pub returns-in-Ok-clause-carried : goal.returns-in-Ok-clause-carried
returns-in-Ok-clause-carried c =
    (accepted_ready c.requires c.open-answer.result _ c.lent_to_open-lent.ensures c.open-answer.ensures (open_ok_is_0 _ _ _ _ _ _ c.in-Ok.is c.open-answer.ensures)).0

pub returns-in-Ok-clause-ready : goal.returns-in-Ok-clause-ready
returns-in-Ok-clause-ready c =
    (accepted_ready c.requires c.open-answer.result _ c.lent_to_open-lent.ensures c.open-answer.ensures (open_ok_is_0 _ _ _ _ _ _ c.in-Ok.is c.open-answer.ensures)).1

pub returns-in-Err-clause-carried : goal.returns-in-Err-clause-carried
returns-in-Err-clause-carried c =
    (refused_ready c.requires c.open-answer.result _ c.lent_to_open-lent.ensures c.open-answer.ensures (refused_not_0 c.in-Err.is)).0

pub returns-in-Err-clause-ready : goal.returns-in-Err-clause-ready
returns-in-Err-clause-ready c =
    (refused_ready c.requires c.open-answer.result _ c.lent_to_open-lent.ensures c.open-answer.ensures (refused_not_0 c.in-Err.is)).1
