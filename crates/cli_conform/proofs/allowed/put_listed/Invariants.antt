use Rattle.std.proofs.Common.{take}
use Rattle.cf_report.proofs.Puttings.{HasPut}
use Rattle.cli_conform.specs.LogLines.{allowed_lines}
use Rattle.cli_conform.proofs.allowed.put_listed.Given as goal

-- the lines of the moves so far are written
abbrev pub invariant-loop-place : goal.invariant-loop-place
invariant-loop-place g l =
    HasPut (g.R.Sink.written l.initial.report) (g.R.Sink.written l.report) (g.R.Sink.faults l.initial.report)
    (g.R.Sink.faults l.report) (allowed_lines (take l.place l.candidates))
