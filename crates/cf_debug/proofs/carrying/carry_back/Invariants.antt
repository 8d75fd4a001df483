use Rattle.std.proofs.Common.{◌≡◌, ℕ, List, None}
use Rattle.cf_io.specs.Puts.{Writes}
use Rattle.cf_debug.specs.Making.{processor_state}
use Rattle.cf_debug.specs.Standing.{StandsSomewhere}
use Rattle.cf_debug.proofs.Backwards.{HasTaken}
use Rattle.cf_debug.proofs.carrying.carry_back.Given as goal

-- that many moves were taken back, and no fault was counted
abbrev pub invariant-loop-taken : goal.invariant-loop-taken
invariant-loop-taken g l = record {
  taken : HasTaken l.taken (processor_state l.initial.core l.initial.ring None) (processor_state l.core l.ring None)
      (g.R.Sink.written l.initial.report) (g.R.Sink.written l.report);
  stands : StandsSomewhere l.core l.ring;
  still : g.R.Sink.faults l.report ≡ g.R.Sink.faults l.initial.report;
}
