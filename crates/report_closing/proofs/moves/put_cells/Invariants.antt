use Rattle.cf_report.proofs.Puttings.{HasPut}
use Rattle.cf_bind.specs.declared.moves.Move.TheVariants.{Slide}
use Rattle.report_closing.proofs.Listed.{lines_from}
use Rattle.report_closing.proofs.moves.put_cells.Given as goal

-- the lines of the cells so far are written
abbrev pub invariant-loop-cell : goal.invariant-loop-cell
invariant-loop-cell g l =
    HasPut (g.R.Sink.written l.initial.report) (g.R.Sink.written l.report) (g.R.Sink.faults l.initial.report)
    (g.R.Sink.faults l.report) (lines_from l.core.plan l.core.state (Slide l.siding) 0 l.cell)
