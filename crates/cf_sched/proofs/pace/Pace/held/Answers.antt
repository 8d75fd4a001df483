use Rattle.std.proofs.Common.{◌∙◌, ap}
use Rattle.cf_sched.specs.Paces.{holds_issue}
use Rattle.cf_sched.proofs.Counting.{held_by}
use Rattle.cf_sched.proofs.pace.Pace.held.Goals as goal

pub returns-clause-held : goal.returns-clause-held
returns-clause-held c = λ r plan count has. ap holds_issue c.self.view_is ∙ held_by c.args.self.now r plan count has
