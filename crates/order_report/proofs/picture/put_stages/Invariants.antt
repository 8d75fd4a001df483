use Rattle.std.proofs.Common.{◌+◌, ◌≤◌, drop, length}
use Rattle.cf_report.specs.Picture.{stage_lines}
use Rattle.cf_report.proofs.Puttings.{HasPut}
use Rattle.order_report.proofs.picture.put_stages.Given as goal

-- the higher stages are written
abbrev pub invariant-loop-stage : goal.invariant-loop-stage
invariant-loop-stage g l = record {
  put : HasPut (g.R.Sink.written l.initial.report) (g.R.Sink.written l.report) (g.R.Sink.faults l.initial.report)
      (g.R.Sink.faults l.report) (stage_lines (l.stage + 1) (drop l.stage l.cells));
  within : l.stage ≤ length l.cells;
}

abbrev pub decreases-loop-stage : goal.decreases-loop-stage
decreases-loop-stage g l = l.stage
