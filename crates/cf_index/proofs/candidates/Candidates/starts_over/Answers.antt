use Rattle.std.proofs.Common.{◌≤◌}
use Rattle.cf_index.proofs.StartsOver.{started}
use Rattle.cf_index.proofs.candidates.Candidates.starts_over.Goals as goal

pub returns-then-issues_none : goal.returns-then-issues_none
returns-then-issues_none c = λ rule mv stands over.
    let plan = c.args.core.now.plan in
    let few : plan.stages ≤ 32 = c.know_stages.ensures.few in
    started rule c.args.held plan c.args.core.now.state mv c.args.last few stands (c.issues_none.ensures.none rule c.if-issues_none.true)
    (c.is_at_end.ensures.outside over) (c.is_at_end.ensures.none over)
