use Rattle.cf_report.proofs.Puttings.{HasPut}
use Rattle.report_closing.specs.Parts.{move_at}
use Rattle.report_closing.proofs.Listed.{lines_from}
use Rattle.report_closing.proofs.moves.put_stages.Given as goal

-- the lines of the stages so far are written
abbrev pub invariant-loop-below : goal.invariant-loop-below
invariant-loop-below g l =
    HasPut (g.R.Sink.written l.initial.report) (g.R.Sink.written l.report) (g.R.Sink.faults l.initial.report)
    (g.R.Sink.faults l.report) (lines_from l.core.plan l.core.state (move_at l.kind) 1 l.below)
