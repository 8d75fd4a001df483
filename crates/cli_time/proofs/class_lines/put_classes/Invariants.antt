use Rattle.std.proofs.Common.{length, take}
use Rattle.std.specs.List.{flat_map}
use Rattle.cf_report.proofs.Puttings.{HasPut}
use Rattle.cf_semantics.specs.moves.Candidates.{counted_from}
use Rattle.run_ledger.specs.Latencies.{classes}
use Rattle.cli_time.specs.SiteLines.{class_line}
use Rattle.cli_time.proofs.class_lines.put_classes.Given as goal

-- the lines of the classes so far are written
abbrev pub invariant-loop-place : goal.invariant-loop-place
invariant-loop-place g l =
    HasPut (g.R.Sink.written l.initial.report) (g.R.Sink.written l.report) (g.R.Sink.faults l.initial.report)
    (g.R.Sink.faults l.report) (flat_map (class_line l.made) (take l.place (counted_from 0 (length classes))))
