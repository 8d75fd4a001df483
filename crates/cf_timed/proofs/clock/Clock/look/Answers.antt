use Rattle.cf_index.specs.Allowed.{allowed_others}
use Rattle.cf_timed.specs.Clocks.{clocked}
use Rattle.cf_timed.proofs.Looked.{looked_due, looked_some, looked_still}
use Rattle.cf_timed.proofs.Looks.{kept_all, same_reference}
use Rattle.cf_timed.proofs.clock.Clock.look.Goals as goal

pub shape_of-kept-inside : goal.shape_of-kept-inside
shape_of-kept-inside c = same_reference _ _ (allowed_others c.args.core.now.plan c.args.core.now.state) c.visit_others.ensures.shown

pub returns-clause-due : goal.returns-clause-due
returns-clause-due c =
    looked_due c.args.core.now.plan (clocked c.args.self.now c.args.core.now.state) _ c.layout-layout.ensures.facts.accepted c.known.ensures
    (kept_all _ _ _ (allowed_others c.args.core.now.plan c.args.core.now.state) c.visit_others.ensures.shown c.clear_to.ensures c.clear_if_never.ensures)

pub returns-clause-still : goal.returns-clause-still
returns-clause-still c =
    looked_still c.args.core.now.plan (clocked c.args.self.now c.args.core.now.state) _ c.layout-layout.ensures.facts.accepted c.known.ensures
    (kept_all _ _ _ (allowed_others c.args.core.now.plan c.args.core.now.state) c.visit_others.ensures.shown c.clear_to.ensures c.clear_if_never.ensures)

pub returns-clause-some : goal.returns-clause-some
returns-clause-some c =
    looked_some c.args.core.now.plan (clocked c.args.self.now c.args.core.now.state) _ c.layout-layout.ensures.facts.accepted c.known.ensures
    (kept_all _ _ _ (allowed_others c.args.core.now.plan c.args.core.now.state) c.visit_others.ensures.shown c.clear_to.ensures c.clear_if_never.ensures)
