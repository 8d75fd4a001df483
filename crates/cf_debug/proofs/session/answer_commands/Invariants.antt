use Rattle.std.proofs.Common.{◌≡◌, ◌+◌, None, false, length}
use Rattle.cf_layout.specs.Accepted.{IsAccepted}
use Rattle.cf_debug.specs.Cutting.{feeding}
use Rattle.cf_debug.specs.Making.{processor_state}
use Rattle.cf_debug.specs.Replies.{DebuggerState, debugger_state}
use Rattle.cf_debug.specs.Sessions.{Session, session_of}
use Rattle.cf_debug.specs.Standing.{StandsNow}
use Rattle.cf_debug.proofs.Sessions.{Comes}
use Rattle.cf_debug.proofs.session.answer_commands.Given as goal

-- the whole lines of the bytes that were used are answered, and no fault was counted
abbrev pub invariant-loop-byte : goal.invariant-loop-byte
invariant-loop-byte g l =
    let left = g.S.Source.left in
    let written = g.K.Sink.written in
    let reported = g.R.Sink.written in
    let begin : DebuggerState = debugger_state (processor_state l.initial.core l.initial.ring (written l.initial.output)) None in
    let now : DebuggerState = debugger_state (processor_state l.core l.ring (written l.output)) l.stop in
    let before : Session = session_of begin.processor (left l.initial.commands.inner.now) (reported l.initial.report) in
    record {
      same : l.commands.inner.ghost_name ≡ l.initial.commands.inner.ghost_name;
      comes : Comes before begin now (left l.commands.inner.now) (reported l.report) l.line (feeding l.feed l.commands);
      going : l.commands.ended ≡ false;
      stands : StandsNow l.initial.core (written l.initial.output) now.processor;
      accepted : IsAccepted l.initial.core.plan;
      commands : g.S.Source.faults l.commands.inner.now ≡ g.S.Source.faults l.initial.commands.inner.now;
      output : g.K.Sink.faults l.output ≡ g.K.Sink.faults l.initial.output;
      report : g.R.Sink.faults l.report ≡ g.R.Sink.faults l.initial.report;
    }

abbrev pub decreases-loop-byte : goal.decreases-loop-byte
decreases-loop-byte g l = l.commands.left + length l.feed
