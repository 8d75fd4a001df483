use Rattle.std.proofs.Common.{◌∙◌, ap, Option}
use Rattle.std.specs.Prelude.{slice_get}
use Rattle.cf_bind.specs.declared.moves.Move.{Move}
use Rattle.cf_sched.specs.Paces.{offers}
use Rattle.cf_sched.specs.Policies.{round_pick}
use Rattle.cf_sched.proofs.Soon.{next_picked}
use Rattle.cf_sched.proofs.round.RoundPolicy.choose.Goals as goal

pub returns-in-Some-clause-choice : goal.returns-in-Some-clause-choice
returns-in-Some-clause-choice c =
    let moves = offers c.args.pace.now c.args.core.now.plan c.args.core.now.state in
    next_picked c.args.pace.now c.rule.result c.args.core.now.plan c.args.core.now.state c.held.result c.self.inside.last c.self.inside.rank c.soon.result
    c.in-Some.next
    c.rule.ensures c.held.ensures.value c.self.invariant c.soon.ensures.next c.soon.ensures.slide c.in-Some.is
    ∙ ap (λ (o : Option Move). slice_get moves (round_pick o moves)) c.self.view_is

pub returns-in-Some-clause-onward : goal.returns-in-Some-clause-onward
returns-in-Some-clause-onward c =
    let moves = offers c.args.pace.now c.args.core.now.plan c.args.core.now.state in
    c.keep.ensures ∙ next_picked c.args.pace.now c.rule.result c.args.core.now.plan c.args.core.now.state c.held.result c.self.inside.last c.self.inside.rank
    c.soon.result
    c.in-Some.next
    c.rule.ensures c.held.ensures.value c.self.invariant c.soon.ensures.next c.soon.ensures.slide c.in-Some.is
    ∙ ap (λ (o : Option Move). slice_get moves (round_pick o moves)) c.self.view_is
