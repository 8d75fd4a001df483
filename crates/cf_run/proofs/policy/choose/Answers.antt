-- The count that stops gives the same offers.
use Rattle.cf_run.proofs.Stopped.{offers-offered}
use Rattle.cf_run.proofs.policy.choose.Goals as goal

pub choose-requires : goal.choose-requires
choose-requires g c = rw (offers-offered c.args.pace.now c.args.core.now.plan c.args.core.now.state c.requires.stages) c.requires.some
