use Rattle.std.proofs.Common.{◌≡◌, None}
use Rattle.rv_machine.specs.Streams.{streams_of}
use Rattle.cf_run.specs.Moving.{RunPlace, run_place_of}
use Rattle.cf_rounds.proofs.Making.{FiredSoFar}
use Rattle.cf_rounds.proofs.firing.fire.Given as goal

-- the moves so far were made, and the others can be made
abbrev pub invariant-loop-place : goal.invariant-loop-place
invariant-loop-place g l =
    let left = g.S.Source.left in
    let written = g.K.Sink.written in
    let start : RunPlace = run_place_of l.initial.core (streams_of (left l.initial.input) (written l.initial.output)) None l.initial.tally in
    let now : RunPlace = run_place_of l.core (streams_of (left l.input) (written l.output)) None l.tally in
    record {
      fired : FiredSoFar l.initial.core.plan l.set start now l.initial.pace l.pace l.fired l.place;
      input : g.S.Source.faults l.input ≡ g.S.Source.faults l.initial.input;
      output : g.K.Sink.faults l.output ≡ g.K.Sink.faults l.initial.output;
    }
