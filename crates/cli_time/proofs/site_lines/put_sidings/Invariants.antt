use Rattle.std.proofs.Common.{take}
use Rattle.std.specs.List.{flat_map}
use Rattle.cf_report.proofs.Puttings.{HasPut}
use Rattle.cli_time.specs.SiteLines.{siding_use_line, siding_numbers}
use Rattle.cli_time.proofs.site_lines.put_sidings.Given as goal

-- the lines of the sidings so far are written
abbrev pub invariant-loop-siding : goal.invariant-loop-siding
invariant-loop-siding g l =
    HasPut (g.R.Sink.written l.initial.report) (g.R.Sink.written l.report) (g.R.Sink.faults l.initial.report)
    (g.R.Sink.faults l.report) (flat_map (siding_use_line l.made) (take l.siding (siding_numbers l.made)))
