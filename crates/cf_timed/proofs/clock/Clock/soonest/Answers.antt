use Rattle.std.proofs.Common.{Option, refl, subst, sym, ℕ}
use Rattle.std.specs.Prelude.{IfSome}
use Rattle.cf_index.specs.Allowed.{unheld_issues, withheld}
use Rattle.cf_index.specs.GuessRules.{guided}
use Rattle.cf_timed.specs.Clocks.{clocked}
use Rattle.cf_timed.specs.Soonest.{AreLater, IsIssueBy, IsSoonest}
use Rattle.cf_timed.specs.declared.soonest.Due.{Due}
use Rattle.cf_timed.proofs.DueMoves.{none_before}
use Rattle.cf_timed.proofs.Sooner.{issue_soonest, kept_soonest}
use Rattle.cf_timed.proofs.clock.Clock.soonest.Goals as goal

pub returns-in-Some-clause-soonest : goal.returns-in-Some-clause-soonest
returns-in-Some-clause-soonest c =
    let plan = c.args.core.now.plan in
    let s = c.args.core.now.state in
    let kept = c.first_due-first.new.kept in
    issue_soonest (clocked c.args.self.now c.args.core.now.state) c.args.rule plan s c.args.held kept.time c.in-Some.due
    (none_before plan (clocked c.args.self.now c.args.core.now.state) kept c.first_due-first.ensures.due)
    (subst (λ (n : ℕ). IsIssueBy (clocked c.args.self.now c.args.core.now.state) (unheld_issues c.args.held c.args.rule plan s) n c.in-Some.due)
    c.time.ensures c.in-Some.ensures.some)

pub returns-in-None-clause-soonest : goal.returns-in-None-clause-soonest
returns-in-None-clause-soonest c =
    let plan = c.args.core.now.plan in
    let s = c.args.core.now.state in
    subst (λ (o : Option Due). IfSome o (λ due. IsSoonest (clocked c.args.self.now s) (withheld c.args.held (guided c.args.rule plan s)) due))
    (sym c.taken.ensures.same)
    (kept_soonest (clocked c.args.self.now c.args.core.now.state) c.args.rule plan c.args.held c.first_due-first.new.kept c.first_due-first.result
    c.first_due-first.ensures.due c.first_due-first.ensures.first
    (subst (λ (n : ℕ). AreLater (clocked c.args.self.now c.args.core.now.state) (unheld_issues c.args.held c.args.rule plan s) n) c.time.ensures
    (c.in-None.ensures.none refl)))
