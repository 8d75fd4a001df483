use Rattle.std.proofs.Common.{◌≡◌, ◌≤◌, ◌*◌, ◌∙◌, ℕ, Bool, Some, ap, subst}
use Rattle.std.specs.Prelude.{nat_le}
use Rattle.cf_semantics.specs.moves.Holding.{is_held}
use Rattle.cf_index.specs.Order.{kind_place}
use Rattle.cf_index.specs.PickedFrom.{IsPicked, IsPickedFrom, from_emit}
use Rattle.cf_index.proofs.FirstsAfter.{no_issue_first}
use Rattle.cf_run.proofs.Turning.{picks_last}
use Rattle.cf_run.proofs.turning_over.start_over.Goals.{in-Issue, in_default}
use Rattle.cf_run.proofs.turning_over.start_over.Goals as goal

pub take_issue-requires-clause-picked : goal.take_issue-requires-clause-picked
take_issue-requires-clause-picked c =
    let pace = c.args.pace.now in
    let plan = c.args.core.now.plan in
    let held : c.held.result ≡ is_held plan pace.count =
    c.held.ensures.value ∙ ap (λ (n : ℕ). nat_le (2 * n) pace.count) c.requires.from.ready.come.stages in
    let some : 1 ≤ kind_place c.args.last = elim c.match-matches.branch [
      | in-Issue w ↦ absurd (cc (w.matches-is, c.if-matches.false))
      | in_default w ↦ no_issue_first _ w.in_default.not-Issue
    ] in
    subst (λ (b : Bool). IsPicked pace.rule b plan c.args.core.now.state (Some c.args.last) c.in-Some.mv) held
    (rw c.rule.ensures at (c.in-Some.ensures.picked c.args.last some (picks_last _ _ c.requires.from)))

pub returns-in-None-clause-from : goal.returns-in-None-clause-from
returns-in-None-clause-from c = λ goes.
    let pace = c.args.pace.now in
    let plan = c.args.core.now.plan in
    let s = c.args.core.now.state in
    let held : c.held.result ≡ is_held plan pace.count =
    c.held.ensures.value ∙ ap (λ (n : ℕ). nat_le (2 * n) pace.count) c.requires.from.ready.come.stages in
    let some : 1 ≤ kind_place c.args.last = elim c.match-matches.branch [
      | in-Issue w ↦ absurd (cc (w.matches-is, c.if-matches.false))
      | in_default w ↦ no_issue_first _ w.in_default.not-Issue
    ] in
    record {
      ready = c.requires.from.ready;
      picked = subst (λ (b : Bool). IsPickedFrom pace.rule b plan s (Some c.args.last) (from_emit plan s)) held
          (rw c.rule.ensures at (c.next_issue.ensures.none c.in-None.is c.args.last some (picks_last _ _ c.requires.from)));
    }
