-- The lines of the next siding follow those so far.
use Rattle.std.proofs.Common.{◌≡◌, length, arith}
use Rattle.cf_report.proofs.Puttings.{has-front, has-more, has-same}
use Rattle.report_closing.proofs.Listed.{sidings-next, sidings-after}
use Rattle.report_closing.proofs.moves.put_slides.Goals as goal

pub returns-in_err-put_cells : goal.returns-in_err-put_cells
returns-in_err-put_cells g c =
    let count : c.siding_count-siding-end.result ≡ length c.args.core.now.plan.sidings =
    rw c.layout.ensures.layout at c.siding_count-siding-end.ensures in
    has-front _ c.in_err-put_cells.was c.from_residual.ensures.0
    (sidings-after c.args.core.now.plan c.args.core.now.state c.loop-siding.siding (omega (arith, count)))
    c.loop-siding.invariant (rw (c.cells_of.ensures, c.layout-in-loop-siding.ensures.layout) at c.put_cells.ensures)

pub loop-siding-preserved : goal.loop-siding-preserved
loop-siding-preserved g c =
    let count : c.siding_count-siding-end.result ≡ length c.args.core.now.plan.sidings =
    rw c.layout.ensures.layout at c.siding_count-siding-end.ensures in
    has-same _ (sidings-next c.args.core.now.plan c.args.core.now.state c.loop-siding.siding (omega (arith, count)))
    (has-more c.in_ok-put_cells.was c.loop-siding.invariant
    (rw (c.cells_of.ensures, c.layout-in-loop-siding.ensures.layout) at c.put_cells.ensures))
