use Rattle.std.proofs.Common.{◌≡◌, ℕ, ◌+◌, ◌-◌, ◌≤◌}
use Rattle.rv_machine.specs.Streams.{streams_of}
use Rattle.cli_machine.specs.Options.{chosen_of}
use Rattle.cli_machine.proofs.Runs.{Reached, told_of}
use Rattle.cli_machine.proofs.running.run.Given as goal

abbrev pub invariant-loop-options : goal.invariant-loop-options
invariant-loop-options g l =
    let left = g.S.Source.left in
    let written = g.K.Sink.written in
    let reported = g.R.Sink.written in
    record {
      reached : (n : ℕ) × (l.machine.retired ≡ l.fn.machine.retired + n) × Reached
          (chosen_of l.options.limit l.options.show_retired l.options.mul l.options.every)
          l.fn.machine l.machine
          (told_of (streams_of (left l.initial.input) (written l.initial.output))
          (streams_of (left l.input) (written l.output))
          (reported l.initial.report) (reported l.report)) n;
      within : l.machine.retired ≤ l.end;
      last : l.end ≡ l.fn.machine.retired + l.options.limit;
      input : g.S.Source.faults l.input ≡ g.S.Source.faults l.initial.input;
      output : g.K.Sink.faults l.output ≡ g.K.Sink.faults l.initial.output;
      report : g.R.Sink.faults l.report ≡ g.R.Sink.faults l.initial.report;
    }

abbrev pub decreases-loop-options : goal.decreases-loop-options
decreases-loop-options g l = l.end - l.machine.retired
