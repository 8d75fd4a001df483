use Rattle.std.proofs.Common.{◌≡◌, ◌-◌, ◌≤◌, None}
use Rattle.rv_machine.specs.Streams.{streams_of}
use Rattle.cf_run.specs.Moving.{RunPlace, run_place_of}
use Rattle.cf_run.specs.Policies.{most_moves}
use Rattle.cf_timed.specs.Clocks.{clocked, rule_of_clock}
use Rattle.cf_timed.specs.DueMoves.{AreDue}
use Rattle.cf_timed.proofs.Watched.{ComesWatched}
use Rattle.cf_timed.proofs.run.run_watched.Given as goal

-- the picks that were made so far lead here, what is kept of the moves that are due is right, and no fault was counted
abbrev pub invariant-loop-step : goal.invariant-loop-step
invariant-loop-step g l =
    let left = g.S.Source.left in
    let written = g.K.Sink.written in
    let reported = g.R.Sink.written in
    let start : RunPlace = run_place_of l.initial.core (streams_of (left l.initial.input) (written l.initial.output)) None l.initial.tally in
    let now : RunPlace = run_place_of l.core (streams_of (left l.input) (written l.output)) None l.tally in
    record {
      comes : ComesWatched g.W.Watcher.noted g.W.Watcher.text l.options.rule (rule_of_clock l.initial.clock) l.options.limit start now l.clock l.initial.watcher
          l.watcher
          (reported l.initial.report) (reported l.report) l.pace.count;
      rule : l.pace.rule ≡ l.options.rule;
      stages : l.pace.stages ≡ l.core.plan.stages;
      due : l.core.state.ending ≡ None → AreDue l.core.plan (clocked l.clock l.core.state) l.kept;
      within : l.core.state.retired ≤ l.options.limit;
      input : g.S.Source.faults l.input ≡ g.S.Source.faults l.initial.input;
      output : g.K.Sink.faults l.output ≡ g.K.Sink.faults l.initial.output;
      report : g.R.Sink.faults l.report ≡ g.R.Sink.faults l.initial.report;
    }

abbrev pub decreases-loop-step : goal.decreases-loop-step
decreases-loop-step g l = most_moves l.initial.core.plan l.options.limit - l.tally.moves
