use Rattle.std.proofs.Common.{◌∙◌, ap, sym}
use Rattle.cf_layout.specs.Layout.{Plan}
use Rattle.cf_sched.specs.Paces.{holds_issue}
use Rattle.cf_run.proofs.Turning.{come_on, goes_on_so, made-nearer, no_turns, not-over, offered-so, sweeping-on, sweeps-onward, sweeps_on}
use Rattle.cf_run.proofs.drawing.draw_moves.Goals as goal

pub loop-rule-init : goal.loop-rule-init
loop-rule-init c = record {
  draws = no_turns _ _ _;
  ready = c.requires.ready;
  stages = c.stages-stages.ensures.stages ∙ ap (λ (plan : Plan). plan.stages) c.layout.ensures.layout;
  rule = c.rule-rule.ensures;
  held = c.held-held.ensures.value;
}

pub may_serve-requires-clause-stages : goal.may_serve-requires-clause-stages
may_serve-requires-clause-stages c = c.loop-rule.invariant.stages

pub may_serve-requires-clause-on : goal.may_serve-requires-clause-on
may_serve-requires-clause-on c = goes_on_so _ _ c.loop-rule.invariant.ready

pub returns-then-may_serve : goal.returns-then-may_serve
returns-then-may_serve c = record { draws = c.loop-rule.invariant.draws }

pub open-offered-requires-clause-stages : goal.open-offered-requires-clause-stages
open-offered-requires-clause-stages c = c.loop-rule.invariant.stages

pub open-offered-requires-clause-on : goal.open-offered-requires-clause-on
open-offered-requires-clause-on c = goes_on_so _ _ c.loop-rule.invariant.ready

pub take_any_turn-requires-clause-ready : goal.take_any_turn-requires-clause-ready
take_any_turn-requires-clause-ready c = c.loop-rule.invariant.ready

pub take_any_turn-requires-clause-offered : goal.take_any_turn-requires-clause-offered
take_any_turn-requires-clause-offered c =
    let h = c.loop-rule.invariant in
    offered-so c.loop-rule.pace c.rule-rule.result c.loop-rule.core.plan c.loop-rule.core.state c.loop-rule.held c.open-offered.result h.rule h.held
    h.ready.come.stages c.open-offered.ensures

pub over-requires : goal.over-requires
over-requires c = (come_on _ _ _ _ c.loop-rule.invariant.ready.come c.take_any_turn.ensures.on.draws).within

pub returns-then-is_some : goal.returns-then-is_some
returns-then-is_some c = record { draws = sweeps_on _ _ _ _ _ c.loop-rule.invariant.draws c.take_any_turn.ensures.on.draws }

pub loop-rule-smaller-then-take_any_turn : goal.loop-rule-smaller-then-take_any_turn
loop-rule-smaller-then-take_any_turn c =
    let ready = sweeping-on _ _ _ c.loop-rule.invariant.ready c.take_any_turn.ensures.on.draws
    (not-over _ _ _ c.over.ensures (sym c.is_some.ensures ∙ c.if-is_some.false)) in
    made-nearer _ _ _ _ ready c.loop-rule.invariant.draws c.take_any_turn.ensures.on.draws c.take_any_turn.ensures.on.counted

pub loop-rule-preserved-then-take_any_turn : goal.loop-rule-preserved-then-take_any_turn
loop-rule-preserved-then-take_any_turn c =
    let h = c.loop-rule.invariant in
    let on = sweeps-onward _ _ _ _ c.take_any_turn.ensures.on.draws in
    record {
      draws = sweeps_on _ _ _ _ _ h.draws c.take_any_turn.ensures.on.draws;
      ready = sweeping-on _ _ _ h.ready c.take_any_turn.ensures.on.draws
          (not-over _ _ _ c.over.ensures (sym c.is_some.ensures ∙ c.if-is_some.false));
      stages = h.stages ∙ ap (λ (plan : Plan). plan.stages) (sym on.plan);
      rule = h.rule ∙ sym on.rule;
      held = c.held-held-then-take_any_turn.ensures.value;
    }

pub loop-rule-smaller : goal.loop-rule-smaller
loop-rule-smaller c =
    made-nearer _ _ _ _ (c.take_any_turn.ensures.on.ready c.if-take_any_turn.false) c.loop-rule.invariant.draws c.take_any_turn.ensures.on.draws
    c.take_any_turn.ensures.on.counted

pub loop-rule-preserved : goal.loop-rule-preserved
loop-rule-preserved c =
    let h = c.loop-rule.invariant in
    let on = sweeps-onward _ _ _ _ c.take_any_turn.ensures.on.draws in
    record {
      draws = sweeps_on _ _ _ _ _ h.draws c.take_any_turn.ensures.on.draws;
      ready = c.take_any_turn.ensures.on.ready c.if-take_any_turn.false;
      stages = h.stages ∙ ap (λ (plan : Plan). plan.stages) (sym on.plan);
      rule = h.rule ∙ sym on.rule;
      held = h.held ∙ ap holds_issue (sym (c.take_any_turn.ensures.on.pace c.if-take_any_turn.false));
    }
