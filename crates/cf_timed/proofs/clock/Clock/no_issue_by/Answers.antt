use Rattle.std.proofs.Common.{◌≡◌, ◌∙◌, refl, ap, Bool, false, true, Option, Some, None}
use Rattle.std.specs.Prelude.{not}
use Rattle.std.specs.Option.{is_some}
use Rattle.run_options.specs.declared.guess_rule.GuessRule.TheVariants.{Any}
use Rattle.cf_timed.specs.Clocks.{capped, clocked}
use Rattle.cf_timed.proofs.NoIssue.{no_issue_first, no_issue_sooner, no_issue_unheld, none_first}
use Rattle.cf_timed.proofs.clock.Clock.no_issue_by.Goals as goal

pub returns-then-issues_none-clause-none : goal.returns-then-issues_none-clause-none
returns-then-issues_none-clause-none c = λ e.
    no_issue_unheld c.args.core.now.plan (clocked c.args.self.now c.args.core.now.state) c.args.by (c.issues_none.ensures Any false c.if-issues_none.true)

pub returns-then-by-timed_issue-clause-none : goal.returns-then-by-timed_issue-clause-none
returns-then-by-timed_issue-clause-none c = λ e.
    let now = clocked c.args.self.now c.args.core.now.state in
    no_issue_sooner c.args.core.now.plan now c.args.by c.timed_issue.result.time
    (c.timed_issue.ensures.timed.time ∙ ap (capped now) c.timed_issue.ensures.mv) c.if-by-timed_issue.true

none_there : {X : Type 0} (o : Option X) (b : Bool) → is_some o ≡ not b → b ≡ true → None ≡ o
none_there None b says e = refl
none_there (Some x) true says e = absurd (cc)
none_there (Some x) false says e = absurd (cc)

says_none : {X : Type 0} (o : Option X) (b : Bool) → is_some o ≡ not b → o ≡ None → b ≡ true
says_none None true says e = refl
says_none None false says e = absurd (cc)
says_none (Some x) b says e = absurd (cc)

pub returns-clause-none : goal.returns-clause-none
returns-clause-none c = λ e.
    no_issue_first c.args.core.now.plan (clocked c.args.self.now c.args.core.now.state) c.args.by
    (none_there c.first_issue.result c.is_none.result c.is_none.ensures e ∙ c.first_issue.ensures)

pub returns-clause-some : goal.returns-clause-some
returns-clause-some c = λ none.
    let now = clocked c.args.self.now c.args.core.now.state in
    says_none c.first_issue.result c.is_none.result c.is_none.ensures
    (c.first_issue.ensures
    ∙ none_first c.args.core.now.plan now c.args.by c.timed_issue.result.time (c.timed_issue.ensures.timed.time ∙ ap (capped now) c.timed_issue.ensures.mv)
    c.if-by-timed_issue.false none)
