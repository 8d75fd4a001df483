use Rattle.std.proofs.Common.{arith}
use Rattle.cf_report.proofs.Listed.{cells-few}
use Rattle.cf_report.proofs.Puttings.{has-front, has-more, has-same, put-nothing}
use Rattle.cf_report.proofs.Pictures.{siding-next, sidings-after}
use Rattle.cf_report.proofs.picture.put_sidings.Goals as goal

pub loop-siding-init : goal.loop-siding-init
loop-siding-init g c = put-nothing _ _

pub put_siding-requires : goal.put_siding-requires
put_siding-requires g c = rw c.siding.ensures.count (cells-few c.args.core.now.plan c.loop-siding.siding c.layout.ensures.facts.accepted (grind arith))

pub returns-in_err-put_siding : goal.returns-in_err-put_siding
returns-in_err-put_siding g c =
    has-front _ c.in_err-put_siding.was c.from_residual.ensures.0
    (sidings-after c.args.core.now.state.sidings c.loop-siding.siding) c.loop-siding.invariant (rw c.siding.ensures.cells at c.put_siding.ensures)

pub loop-siding-preserved : goal.loop-siding-preserved
loop-siding-preserved g c =
    has-same _ (siding-next c.args.core.now.state.sidings c.loop-siding.siding)
    (has-more c.in_ok-put_siding.was c.loop-siding.invariant (rw c.siding.ensures.cells at c.put_siding.ensures))
