use Rattle.std.proofs.Common.{◌≡◌, ◌-◌, ◌≤◌}
use Rattle.rv_machine.specs.Streams.{streams_of}
use Rattle.cf_core.specs.Asking.{AsksInput, AsksOutput}
use Rattle.cf_sched.specs.Policies.{drawn_pick}
use Rattle.cf_run.specs.Asking.{SomeAsks}
use Rattle.cf_run.specs.Moving.{RunPlace, run_place_of}
use Rattle.cf_run.specs.Policies.{most_moves}
use Rattle.cf_run.specs.Sweeps.{HasPicked, drawn_after}
use Rattle.cf_run.proofs.drawing.run_drawn.Given as goal

-- the picks that were made so far lead here, and no fault was counted
abbrev pub invariant-loop-ran : goal.invariant-loop-ran
invariant-loop-ran g l =
    let left = g.S.Source.left in
    let written = g.K.Sink.written in
    let reported = g.R.Sink.written in
    let start : RunPlace = run_place_of l.initial.core (streams_of (left l.initial.input) (written l.initial.output)) (reported l.initial.report)
    l.initial.tally in
    let now : RunPlace = run_place_of l.core (streams_of (left l.input) (written l.output)) (reported l.report) l.tally in
    record {
      comes : HasPicked l.fn.options.rule drawn_pick drawn_after l.fn.options.limit l.fn.options.reporting start now
          l.initial.drawn l.drawn l.course.pace.count;
      options : l.course.options ≡ l.fn.options;
      rule : l.course.pace.rule ≡ l.fn.options.rule;
      stages : l.course.pace.stages ≡ l.core.plan.stages;
      input_asked : (SomeAsks AsksInput start.core.plan start.core.state comes.reached.trace → ⊥) → l.input ≡ l.initial.input;
      output_asked : (SomeAsks AsksOutput start.core.plan start.core.state comes.reached.trace → ⊥) → l.output ≡ l.initial.output;
      within : l.core.state.retired ≤ l.fn.options.limit;
      input : g.S.Source.faults l.input ≡ g.S.Source.faults l.initial.input;
      output : g.K.Sink.faults l.output ≡ g.K.Sink.faults l.initial.output;
      report : g.R.Sink.faults l.report ≡ g.R.Sink.faults l.initial.report;
    }

abbrev pub decreases-loop-ran : goal.decreases-loop-ran
decreases-loop-ran g l = most_moves l.initial.core.plan l.fn.options.limit - l.tally.moves
