use Rattle.std.proofs.Common.{◌∙◌, ap}
use Rattle.cf_timed.specs.Clocks.{capped, clocked}
use Rattle.cf_timed.proofs.Sooner.{issue_there, none_allowed, none_held, none_sooner}
use Rattle.cf_timed.proofs.clock.Clock.issue_by.Goals as goal

pub returns-then-held-clause-none : goal.returns-then-held-clause-none
returns-then-held-clause-none c = λ none. none_held (clocked c.args.self.now c.args.core.now.state) c.args.rule c.args.core.now.plan c.args.core.now.state
    c.args.held c.args.by c.if-held.true

pub returns-then-issues_none-clause-none : goal.returns-then-issues_none-clause-none
returns-then-issues_none-clause-none c = λ none.
    none_allowed (clocked c.args.self.now c.args.core.now.state) c.args.rule c.args.core.now.plan c.args.core.now.state c.args.held c.args.by
    (c.issues_none.ensures c.args.rule c.args.held c.if-issues_none.true)

pub returns-then-by-next-clause-none : goal.returns-then-by-next-clause-none
returns-then-by-next-clause-none c = λ none.
    none_sooner (clocked c.args.self.now c.args.core.now.state) c.args.rule c.args.core.now.plan c.args.core.now.state c.args.held c.args.by
    c.timed_issue-next.result.time
    (c.timed_issue-next.ensures.timed.time ∙ ap (capped (clocked c.args.self.now c.args.core.now.state)) c.timed_issue-next.ensures.mv) c.if-by-next.true

pub returns-in-Some-clause-some : goal.returns-in-Some-clause-some
returns-in-Some-clause-some c = issue_there (clocked c.args.self.now c.args.core.now.state) c.args.rule c.args.core.now.plan c.args.core.now.state c.args.held
    c.args.by
    c.timed_issue-next.result c.in-Some.mv c.timed_issue-next.ensures.mv c.timed_issue-next.ensures.timed c.if-held.false c.if-by-next.false c.in-Some.ensures
