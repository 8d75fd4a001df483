use Rattle.cf_index.proofs.Firsts.{first_free, first_issue}
use Rattle.cf_index.proofs.soon.look_for_first.Goals as goal

pub returns-in-Some : goal.returns-in-Some
returns-in-Some c = first_issue c.args.rule c.args.core.now.plan c.args.core.now.state c.args.held c.in-Some.next c.first_issue.result c.if-held.false
    c.first_issue.ensures c.in-Some.is

pub returns-in-None : goal.returns-in-None
returns-in-None c = first_free c.args.rule c.args.core.now.plan c.args.core.now.state c.args.held c.first_issue.result c.first_other-in-None.result
    c.if-held.false c.first_issue.ensures c.in-None.is c.first_other-in-None.ensures
