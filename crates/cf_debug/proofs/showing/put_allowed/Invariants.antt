use Rattle.std.proofs.Common.{take}
use Rattle.std.specs.List.{flat_map}
use Rattle.cf_report.proofs.Puttings.{HasPut}
use Rattle.cf_semantics.specs.moves.Candidates.{candidates}
use Rattle.report_closing.specs.Moves.{line_in}
use Rattle.cf_debug.proofs.showing.put_allowed.Given as goal

-- the lines of the candidates so far are written
abbrev pub invariant-loop-place : goal.invariant-loop-place
invariant-loop-place g l =
    HasPut (g.R.Sink.written l.initial.report) (g.R.Sink.written l.report) (g.R.Sink.faults l.initial.report)
    (g.R.Sink.faults l.report) (flat_map (line_in l.core.plan l.core.state) (take l.place (candidates l.core.plan l.core.state)))
