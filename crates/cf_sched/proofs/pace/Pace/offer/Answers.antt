use Rattle.std.proofs.Common.{◌∙◌, sym, ap}
use Rattle.cf_semantics.specs.moves.Candidates.{held_back}
use Rattle.cf_index.specs.GuessRules.{guided}
use Rattle.cf_sched.specs.Paces.{offered_by}
use Rattle.cf_sched.proofs.pace.Pace.offer.Goals as goal

pub returns-then-held-clause-offered : goal.returns-then-held-clause-offered
unfolding offered_by
returns-then-held-clause-offered c = λ r count has.
    let e = sym (c.held.ensures.held r c.args.core.now.plan count has) ∙ c.if-held.true in
    let f = c.fill_by.ensures ∙ ap (λ r. guided r c.args.core.now.plan c.args.core.now.state) (c.rule.ensures ∙ has.0) in
    rw e (c.hold.ensures ∙ ap held_back f)

pub returns-else-held-clause-offered : goal.returns-else-held-clause-offered
unfolding offered_by
returns-else-held-clause-offered c = λ r count has.
    let e = sym (c.held.ensures.held r c.args.core.now.plan count has) ∙ c.if-held.false in
    let f = c.fill_by.ensures ∙ ap (λ r. guided r c.args.core.now.plan c.args.core.now.state) (c.rule.ensures ∙ has.0) in
    rw e f
