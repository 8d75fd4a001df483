use Rattle.cf_report.proofs.Puttings.{HasPut}
use Rattle.std.proofs.Common.{take}
use Rattle.report_closing.specs.Moves.{siding_moves}
use Rattle.report_closing.specs.Parts.{move_lines}
use Rattle.report_closing.proofs.moves.put_slides.Given as goal

-- the lines of the sidings so far are written
abbrev pub invariant-loop-siding : goal.invariant-loop-siding
invariant-loop-siding g l =
    HasPut (g.R.Sink.written l.initial.report) (g.R.Sink.written l.report) (g.R.Sink.faults l.initial.report)
    (g.R.Sink.faults l.report) (move_lines l.core.plan l.core.state (siding_moves 0 (take l.siding l.core.plan.sidings)))
