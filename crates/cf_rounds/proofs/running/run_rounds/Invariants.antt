use Rattle.std.proofs.Common.{◌≡◌, ◌-◌, None}
use Rattle.rv_machine.specs.Streams.{streams_of}
use Rattle.cf_run.specs.Moving.{RunPlace, run_place_of}
use Rattle.cf_run.specs.Policies.{most_moves}
use Rattle.cf_rounds.proofs.Said.{SaidSo}
use Rattle.cf_rounds.proofs.running.run_rounds.Given as goal

-- the rounds so far lead here, and no fault was counted
abbrev pub invariant-loop-clocked : goal.invariant-loop-clocked
invariant-loop-clocked g l =
    let left = g.S.Source.left in
    let written = g.K.Sink.written in
    let start : RunPlace = run_place_of l.initial.core (streams_of (left l.initial.input) (written l.initial.output)) None l.initial.tally in
    let now : RunPlace = run_place_of l.core (streams_of (left l.input) (written l.output)) None l.tally in
    record {
      said : SaidSo l.options.every l.options.rule l.options.limit start now l.pace l.rounds (g.R.Sink.written l.initial.report) (g.R.Sink.written l.report);
      input : g.S.Source.faults l.input ≡ g.S.Source.faults l.initial.input;
      output : g.K.Sink.faults l.output ≡ g.K.Sink.faults l.initial.output;
      report : g.R.Sink.faults l.report ≡ g.R.Sink.faults l.initial.report;
    }

abbrev pub decreases-loop-clocked : goal.decreases-loop-clocked
decreases-loop-clocked g l = most_moves l.initial.core.plan l.options.limit - l.tally.moves
