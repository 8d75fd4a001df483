use Rattle.std.proofs.Common.{◌∙◌, ap, refl, sym}
use Rattle.cf_layout.specs.Layout.{Plan}
use Rattle.cf_run.proofs.Coming.{turned-plan}
use Rattle.cf_timed.proofs.DueMoves.{due_none}
use Rattle.cf_timed.proofs.Running.{ends-bounded, is-begun, led-nearer, stops-timed, timed-can-count, timed-clock, timed-ends, timed-first, timed-more, timed-nearer, timed-offered, timed-within}
use Rattle.cf_timed.proofs.run.run_timed.Goals as goal

pub loop-ran-init : goal.loop-ran-init
loop-ran-init g c = record {
  begun = is-begun _ _ _ c.known.ensures.accepted c.known.ensures.registers c.requires.begins.can_run c.known-2.ensures;
  comes = timed-first _ _ _ _ _ _ _ refl c.requires.begins.clock_is
      (c.stages.ensures.stages ∙ ap (λ (plan : Plan). plan.stages) c.layout.ensures.layout) c.new-pace.ensures.2;
  rule = c.new-pace.ensures.0;
  stages = c.new-pace.ensures.1 ∙ c.stages.ensures.stages ∙ ap (λ (plan : Plan). plan.stages) c.layout.ensures.layout;
  due = λ unended. rw c.new-kept.ensures (due_none _ _);
  within = c.requires.begins.can_run.can_run.within;
  input = refl;
  output = refl;
}

pub make_due_if_on-requires-clause-come : goal.make_due_if_on-requires-clause-come
make_due_if_on-requires-clause-come g c = record {
  rule = _;
  begin = _;
  streams = _;
  is_begun = c.loop-ran.invariant.begun;
  comes = c.loop-ran.invariant.comes;
  within = c.loop-ran.invariant.within;
  stages = c.loop-ran.invariant.stages;
}

pub advance-requires-clause-some : goal.advance-requires-clause-some
advance-requires-clause-some g c = timed-offered _ _ _ _ _ _ _ c.loop-ran.invariant.begun
    (c.make_due_if_on.ensures.leads.leads _ _ _ c.loop-ran.invariant.begun c.loop-ran.invariant.comes)

pub advance-requires-clause-counts : goal.advance-requires-clause-counts
advance-requires-clause-counts g c = timed-can-count _ _ _ _ _ _ _ c.loop-ran.invariant.begun
    (c.make_due_if_on.ensures.leads.leads _ _ _ c.loop-ran.invariant.begun c.loop-ran.invariant.comes) c.make_due_if_on.ensures.leads.within

pub advance-requires-clause-clock : goal.advance-requires-clause-clock
advance-requires-clause-clock g c = timed-clock _ _ _ _ _ _ _
    (c.make_due_if_on.ensures.leads.leads _ _ _ c.loop-ran.invariant.begun c.loop-ran.invariant.comes)

pub returns-in-Err-clause-run : goal.returns-in-Err-clause-run
returns-in-Err-clause-run g c = stops-timed _ _ _ _ _ _ _ _ _ _ _ _ _ _ _ c.loop-ran.invariant.begun c.loop-ran.invariant.rule
    (c.make_due_if_on.ensures.leads.leads _ _ _ c.loop-ran.invariant.begun c.loop-ran.invariant.comes) c.make_due_if_on.ensures.leads.within
    c.in-Err.ensures.turns c.timed.ensures

pub returns-in-Err-clause-bounded : goal.returns-in-Err-clause-bounded
returns-in-Err-clause-bounded g c = ends-bounded _ _ _ _ _ _ _ c.loop-ran.invariant.begun (timed-ends _ _ _ _ _ _ _ _ _ c.loop-ran.invariant.begun
    (c.make_due_if_on.ensures.leads.leads _ _ _ c.loop-ran.invariant.begun c.loop-ran.invariant.comes) c.make_due_if_on.ensures.leads.within
    c.in-Err.ensures.turns.0)

pub loop-ran-smaller : goal.loop-ran-smaller
loop-ran-smaller g c = led-nearer _ _ _ _ _ _ c.make_due_if_on.ensures.leads (timed-nearer _ _ _ _ _ _ _ _ _ _ _ c.loop-ran.invariant.begun
    (c.make_due_if_on.ensures.leads.leads _ _ _ c.loop-ran.invariant.begun c.loop-ran.invariant.comes) c.make_due_if_on.ensures.leads.within
    c.in_default.ensures.turns)

pub loop-ran-preserved : goal.loop-ran-preserved
loop-ran-preserved g c = record {
  begun = c.loop-ran.invariant.begun;
  comes = rw c.in_default.ensures.rule (timed-more _ _ _ _ _ _ _ _ _ _ _ c.loop-ran.invariant.begun
      (c.make_due_if_on.ensures.leads.leads _ _ _ c.loop-ran.invariant.begun c.loop-ran.invariant.comes) c.make_due_if_on.ensures.leads.within
      c.in_default.ensures.turns);
  rule = c.in_default.ensures.rule ∙ c.loop-ran.invariant.rule;
  stages = c.in_default.ensures.stages ∙ c.loop-ran.invariant.stages ∙ ap (λ (plan : Plan). plan.stages)
      (sym (turned-plan _ _ _ _ _ _ _ _ c.in_default.ensures.turns.makes ∙ c.make_due_if_on.ensures.leads.plan));
  due = c.in_default.ensures.due;
  within = timed-within _ _ _ _ _ _ _ _ _ c.in_default.ensures.turns;
  input = c.in_default.ensures.input.still ∙ c.loop-ran.invariant.input;
  output = c.in_default.ensures.output.still ∙ c.loop-ran.invariant.output;
}
