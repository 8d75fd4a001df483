use Rattle.std.proofs.Common.{◌≡◌, ◌≤◌}
use Rattle.run_options.specs.declared.guess_rule.GuessRule.TheVariants as rules
use Rattle.cf_layout.specs.Accepted.{IsAccepted}
use Rattle.cf_run.specs.Policies.{chooser}
use Rattle.cf_debug.specs.Making.{ProcessorState, processor_state}
use Rattle.cf_debug.specs.Standing.{StandsSomewhere}
use Rattle.cf_debug.proofs.InTurn.{Comes}
use Rattle.cf_debug.proofs.driving.drive.Given as goal

-- the moves so far lead here, and no fault was counted
abbrev pub invariant-loop-made : goal.invariant-loop-made
invariant-loop-made g l =
    let start : ProcessorState = processor_state l.initial.core l.initial.ring (g.K.Sink.written l.initial.output) in
    let now : ProcessorState = processor_state l.core l.ring (g.K.Sink.written l.output) in
    record {
      comes : Comes l.stop start now (chooser rules.Any l.round l.pace.count) (g.R.Sink.written l.initial.report) (g.R.Sink.written l.report) l.made;
      rule : l.pace.rule ≡ rules.Any;
      stages : l.pace.stages ≡ l.core.plan.stages;
      accepted : IsAccepted l.core.plan;
      stands : StandsSomewhere l.core l.ring;
      output : g.K.Sink.faults l.output ≡ g.K.Sink.faults l.initial.output;
      report : g.R.Sink.faults l.report ≡ g.R.Sink.faults l.initial.report;
    }
