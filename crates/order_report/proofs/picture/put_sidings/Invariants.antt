use Rattle.std.proofs.Common.{take}
use Rattle.cf_report.specs.Picture.{siding_lines}
use Rattle.cf_report.proofs.Puttings.{HasPut}
use Rattle.order_report.proofs.picture.put_sidings.Given as goal

-- the sidings so far are written
abbrev pub invariant-loop-siding : goal.invariant-loop-siding
invariant-loop-siding g l =
    HasPut (g.R.Sink.written l.initial.report) (g.R.Sink.written l.report) (g.R.Sink.faults l.initial.report)
    (g.R.Sink.faults l.report) (siding_lines 0 (take l.siding l.sidings))
