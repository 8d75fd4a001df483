use Rattle.cf_conform.proofs.Causes.{observed-output}
use Rattle.cf_conform.proofs.judging.judge_line.Goals as goal

pub returns-in-Observes-clause-output : goal.returns-in-Observes-clause-output
returns-in-Observes-clause-output g c = observed-output _ _ _ _ _ _ _ c.observe.ensures
