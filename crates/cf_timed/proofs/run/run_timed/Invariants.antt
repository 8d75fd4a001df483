use Rattle.std.proofs.Common.{◌≡◌, ◌-◌, ◌≤◌, None}
use Rattle.rv_machine.specs.Streams.{streams_of}
use Rattle.cf_run.specs.Moving.{RunPlace, run_place_of}
use Rattle.cf_run.specs.Policies.{most_moves}
use Rattle.cf_timed.specs.Arrivals.{ComesHere, IsBegun, timed_at}
use Rattle.cf_timed.specs.Clocks.{clocked, rule_of_clock}
use Rattle.cf_timed.specs.DueMoves.{AreDue}
use Rattle.cf_timed.proofs.run.run_timed.Given as goal

-- the run has come here, what is kept of the moves that are due is right, and no fault was counted
abbrev pub invariant-loop-ran : goal.invariant-loop-ran
invariant-loop-ran g l =
    let left = g.S.Source.left in
    let written = g.K.Sink.written in
    let start : RunPlace = run_place_of l.initial.core (streams_of (left l.initial.input) (written l.initial.output)) None l.initial.tally in
    record {
      begun : IsBegun (rule_of_clock l.initial.clock) l.options.limit start;
      comes : ComesHere (rule_of_clock l.initial.clock) l.options.limit start (streams_of (left l.input) (written l.output)) l.pace
          (timed_at l.core l.clock l.tally);
      rule : l.pace.rule ≡ l.options.rule;
      stages : l.pace.stages ≡ l.core.plan.stages;
      due : l.core.state.ending ≡ None → AreDue l.core.plan (clocked l.clock l.core.state) l.kept;
      within : l.core.state.retired ≤ l.options.limit;
      input : g.S.Source.faults l.input ≡ g.S.Source.faults l.initial.input;
      output : g.K.Sink.faults l.output ≡ g.K.Sink.faults l.initial.output;
    }

abbrev pub decreases-loop-ran : goal.decreases-loop-ran
decreases-loop-ran g l = most_moves l.initial.core.plan l.options.limit - l.tally.moves
