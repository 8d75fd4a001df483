use Rattle.std.proofs.Common.{take}
use Rattle.std.specs.List.{flat_map}
use Rattle.cf_report.proofs.Puttings.{HasPut}
use Rattle.cli_time.specs.SiteLines.{falling_stages, stage_use_line}
use Rattle.cli_time.proofs.site_lines.put_stages.Given as goal

-- the lines of the stages so far are written
abbrev pub invariant-loop-above : goal.invariant-loop-above
invariant-loop-above g l =
    HasPut (g.R.Sink.written l.initial.report) (g.R.Sink.written l.report) (g.R.Sink.faults l.initial.report)
    (g.R.Sink.faults l.report) (flat_map (stage_use_line l.made) (take l.above (falling_stages l.made)))
