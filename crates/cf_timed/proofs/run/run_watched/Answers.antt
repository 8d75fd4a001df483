use Rattle.std.proofs.Common.{◌∙◌, ap, refl, sym, arith}
use Rattle.cf_layout.specs.Layout.{Plan}
use Rattle.cf_run.proofs.Coming.{turned-plan}
use Rattle.cf_run.proofs.Runs.{can-count}
use Rattle.cf_timed.proofs.DueMoves.{due_none}
use Rattle.cf_timed.proofs.Running.{ends-bounded, is-begun, never-reported, timed-clock, timed-counted, timed-ends, timed-nearer, timed-offered, timed-within}
use Rattle.cf_timed.proofs.Watched.{goes-broken, runs-watched, watched-breaks, watched-first, watched-more}
use Rattle.cf_timed.proofs.run.run_watched.Goals as goal

pub loop-step-init : goal.loop-step-init
loop-step-init g c = record {
  comes = watched-first _ _ _ _ _ _ _ _ _ _ _ refl c.requires.begins.clock_is
      (c.stages.ensures.stages ∙ ap (λ (plan : Plan). plan.stages) c.layout.ensures.layout) c.new-pace.ensures.2;
  rule = c.new-pace.ensures.0;
  stages = c.new-pace.ensures.1 ∙ c.stages.ensures.stages ∙ ap (λ (plan : Plan). plan.stages) c.layout.ensures.layout;
  due = λ unended. rw c.new-kept.ensures (due_none _ _);
  within = c.requires.begins.can_run.can_run.within;
  input = refl;
  output = refl;
  report = refl;
}

pub advance-requires-clause-some : goal.advance-requires-clause-some
advance-requires-clause-some g c = rw c.loop-step.invariant.rule (timed-offered _ _ _ _ _ _ _
    (is-begun _ _ _ c.known.ensures.accepted c.known.ensures.registers c.requires.begins.can_run c.known-2.ensures) c.loop-step.invariant.comes.comes)

pub advance-requires-clause-clock : goal.advance-requires-clause-clock
advance-requires-clause-clock g c = timed-clock _ _ _ _ _ _ _ c.loop-step.invariant.comes.comes

pub advance-requires-clause-counts : goal.advance-requires-clause-counts
advance-requires-clause-counts g c =
    let few = timed-counted _ _ _ _ _ _ _
    (is-begun _ _ _ c.known.ensures.accepted c.known.ensures.registers c.requires.begins.can_run c.known-2.ensures)
    c.loop-step.invariant.comes.comes c.loop-step.invariant.within in
    can-count _ _ _ _ c.loop-step.invariant.comes.comes.reached (omega (arith, few))

pub returns-in-Err-clause-run : goal.returns-in-Err-clause-run
returns-in-Err-clause-run g c =
    let turns = rw c.loop-step.invariant.rule at c.in-Err.ensures.turns in
    runs-watched _ _ _ _ _ _ _ _ _ _ _ _ _ _ _ _ _ _ _ _
    (is-begun _ _ _ c.known.ensures.accepted c.known.ensures.registers c.requires.begins.can_run c.known-2.ensures) c.loop-step.invariant.comes
    c.loop-step.invariant.within turns.0 (c.timed.ensures (never-reported _ _ _ _ _ _ _ turns.0)) turns.1

pub returns-in-Err-clause-bounded : goal.returns-in-Err-clause-bounded
returns-in-Err-clause-bounded g c =
    let turns = rw c.loop-step.invariant.rule at c.in-Err.ensures.turns in
    ends-bounded _ _ _ _ _ _ _
    (is-begun _ _ _ c.known.ensures.accepted c.known.ensures.registers c.requires.begins.can_run c.known-2.ensures)
    (timed-ends _ _ _ _ _ _ _ _ _
    (is-begun _ _ _ c.known.ensures.accepted c.known.ensures.registers c.requires.begins.can_run c.known-2.ensures) c.loop-step.invariant.comes.comes
    c.loop-step.invariant.within turns.0)

pub loop-step-smaller : goal.loop-step-smaller
loop-step-smaller g c = timed-nearer _ _ _ _ _ _ _ _ _ _ _
    (is-begun _ _ _ c.known.ensures.accepted c.known.ensures.registers c.requires.begins.can_run c.known-2.ensures) c.loop-step.invariant.comes.comes
    c.loop-step.invariant.within (rw c.loop-step.invariant.rule at c.in-Ok.ensures.turns)

pub loop-step-preserved : goal.loop-step-preserved
loop-step-preserved g c =
    let turns = rw c.loop-step.invariant.rule at c.in-Ok.ensures.turns in
    record {
      comes = watched-more _ _ _ _ _ _ _ _ _ _ _ _ _ _ _ _ _ _ _
          (is-begun _ _ _ c.known.ensures.accepted c.known.ensures.registers c.requires.begins.can_run c.known-2.ensures) c.loop-step.invariant.comes
          c.loop-step.invariant.within turns c.note.ensures.noted c.in_ok-note.ensures.text.all;
      rule = c.in-Ok.ensures.rule ∙ c.loop-step.invariant.rule;
      stages = c.in-Ok.ensures.stages ∙ c.loop-step.invariant.stages ∙ ap (λ (plan : Plan). plan.stages)
          (sym (turned-plan _ _ _ _ _ _ _ _ turns.makes));
      due = c.in-Ok.ensures.due;
      within = timed-within _ _ _ _ _ _ _ _ _ turns;
      input = c.in-Ok.ensures.input.still ∙ c.loop-step.invariant.input;
      output = c.in-Ok.ensures.output.still ∙ c.loop-step.invariant.output;
      report = c.in_ok-note.ensures.text.cause.still ∙ c.loop-step.invariant.report;
    }

pub returns-in_err-note-clause-run : goal.returns-in_err-note-clause-run
returns-in_err-note-clause-run g c =
    let turns = rw c.loop-step.invariant.rule at c.in-Ok.ensures.turns in
    goes-broken _ _ _ _ _ _ _ _ _ _ _ _ _ c.from_residual.result c.from_residual.ensures.0
    (watched-breaks _ _ _ _ _ _ _ _ _ _ _ _ _ _ _ _ _ _
    (is-begun _ _ _ c.known.ensures.accepted c.known.ensures.registers c.requires.begins.can_run c.known-2.ensures) c.loop-step.invariant.comes
    c.loop-step.invariant.within turns c.in_err-note.ensures.text.front)
