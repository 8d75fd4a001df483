use Rattle.std.proofs.Common.{◌≡◌, ◌≤◌, Option, Some, None, refl}
use Rattle.std.specs.Prelude.{IfSome}
use Rattle.cf_bind.specs.declared.moves.Move.{Move}
use Rattle.cf_index.specs.Order.{kind_place}
use Rattle.cf_index.specs.PickedFrom.{IsPicked}
use Rattle.cf_index.proofs.StartsOver.{issue_kind, issue_none, issue_picked, restarted}
use Rattle.cf_index.proofs.candidates.Candidates.next_issue.Goals as goal

each : (o : Option Move) (P : Move → Type 0) → ((mv : Move) → o ≡ Some mv → P mv) → IfSome o P
each None P all = tt
each (Some mv) P all = all mv refl

pub returns-then-issues_none-clause-none : goal.returns-then-issues_none-clause-none
returns-then-issues_none-clause-none c = λ none last some over.
    let plan = c.args.core.now.plan in
    let few : plan.stages ≤ 32 = c.know_stages.ensures.few in
    restarted c.args.rule c.args.held plan c.args.core.now.state last few (c.issues_none.ensures.none c.args.rule c.if-issues_none.true) some over

pub returns-else-issues_none-clause-issue : goal.returns-else-issues_none-clause-issue
returns-else-issues_none-clause-issue c =
    each c.first_issue_if.result (λ (mv : Move). kind_place mv ≡ 0)
    (λ mv is. issue_kind c.args.rule c.args.core.now.plan c.args.core.now.state c.first_issue_if.result mv c.first_issue_if.ensures is)

pub returns-else-issues_none-clause-picked : goal.returns-else-issues_none-clause-picked
returns-else-issues_none-clause-picked c = λ last some over.
    let plan = c.args.core.now.plan in
    let s = c.args.core.now.state in
    each c.first_issue_if.result (λ (mv : Move). IsPicked c.args.rule c.args.held plan s (Some last) mv)
    (λ mv is. issue_picked c.args.rule c.args.held plan s last mv c.first_issue_if.result
    (c.issues_none.ensures.unheld c.if-issues_none.false) c.first_issue_if.ensures is some over)

pub returns-else-issues_none-clause-none : goal.returns-else-issues_none-clause-none
returns-else-issues_none-clause-none c = λ none last some over.
    let plan = c.args.core.now.plan in
    let few : plan.stages ≤ 32 = c.know_stages.ensures.few in
    issue_none c.args.rule c.args.held plan c.args.core.now.state last c.first_issue_if.result few
    (c.issues_none.ensures.unheld c.if-issues_none.false) c.first_issue_if.ensures none some over
