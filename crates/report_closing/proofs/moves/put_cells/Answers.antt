-- The line of the next cell follows those so far.
use Rattle.std.proofs.Common.{refl, arith}
use Rattle.cf_bind.specs.declared.moves.Move.TheVariants.{Slide}
use Rattle.cf_report.proofs.Puttings.{has-front, has-more, has-same}
use Rattle.report_closing.proofs.Listed.{line-next, line-after}
use Rattle.report_closing.proofs.moves.put_cells.Goals as goal

pub returns-in_err-put_standing : goal.returns-in_err-put_standing
returns-in_err-put_standing g c =
    has-front _ c.in_err-put_standing.was c.from_residual.ensures.0
    (line-after c.args.core.now.plan c.args.core.now.state (Slide c.args.siding) 0 c.loop-cell.cell c.loop-cell.cell _ (omega arith) (omega arith))
    c.loop-cell.invariant c.put_standing.ensures

pub loop-cell-preserved : goal.loop-cell-preserved
loop-cell-preserved g c =
    has-same _ (line-next c.args.core.now.plan c.args.core.now.state (Slide c.args.siding) 0 c.loop-cell.cell c.loop-cell.cell _ (omega arith) refl)
    (has-more c.in_ok-put_standing.was c.loop-cell.invariant c.put_standing.ensures)
