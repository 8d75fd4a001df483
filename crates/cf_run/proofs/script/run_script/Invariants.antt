use Rattle.std.proofs.Common.{◌≡◌, ◌+◌, ◌<◌, ◌≤◌, ◌^◌, length}
use Rattle.rv_machine.specs.Streams.{streams_of}
use Rattle.cf_core.specs.Asking.{AsksInput, AsksOutput}
use Rattle.cf_run.specs.Asking.{SomeAsks}
use Rattle.cf_run.specs.Moving.{run_place_of}
use Rattle.cf_run.specs.Scripts.{ScriptRun, script_run_of, Follows}
use Rattle.cf_run.proofs.script.run_script.Given as goal

-- the moves that were made so far lead here, and no fault was counted
abbrev pub invariant-loop-end : goal.invariant-loop-end
invariant-loop-end g l =
    let left = g.S.Source.left in
    let written = g.K.Sink.written in
    let reported = g.R.Sink.written in
    let start : ScriptRun = script_run_of (run_place_of l.initial.core (streams_of (left l.initial.input) (written l.initial.output))
    (reported l.initial.report) l.initial.tally) l.initial.script in
    let now : ScriptRun = script_run_of (run_place_of l.core (streams_of (left l.input) (written l.output)) (reported l.report) l.tally) l.script in
    record {
      followed : Follows l.limit l.reporting start now;
      input_asked : (SomeAsks AsksInput start.place.core.plan start.place.core.state followed.reaches.trace → ⊥) → l.input ≡ l.initial.input;
      output_asked : (SomeAsks AsksOutput start.place.core.plan start.place.core.state followed.reaches.trace → ⊥) → l.output ≡ l.initial.output;
      within : l.core.state.retired ≤ l.limit;
      few : 0 < l.tally.moves → l.tally.moves + length l.script.moves < 2 ^ 25;
      input : g.S.Source.faults l.input ≡ g.S.Source.faults l.initial.input;
      output : g.K.Sink.faults l.output ≡ g.K.Sink.faults l.initial.output;
      report : g.R.Sink.faults l.report ≡ g.R.Sink.faults l.initial.report;
    }

abbrev pub decreases-loop-end : goal.decreases-loop-end
decreases-loop-end g l = length l.script.moves
