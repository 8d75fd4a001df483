-- The line of the next stage follows those so far.
use Rattle.std.proofs.Common.{◌≡◌, ◌+◌, refl, arith}
use Rattle.report_closing.specs.Parts.{move_at}
use Rattle.cf_report.proofs.Puttings.{has-front, has-more, has-same}
use Rattle.report_closing.proofs.Listed.{line-next, line-after}
use Rattle.report_closing.proofs.moves.put_stages.Goals as goal

pub returns-in_err-put_standing : goal.returns-in_err-put_standing
returns-in_err-put_standing g c =
    let count : c.stages-below-end.result ≡ c.args.core.now.plan.stages =
    rw c.layout.ensures.layout at c.stages-below-end.ensures.stages in
    has-front _ c.in_err-put_standing.was c.from_residual.ensures.0
    (line-after c.args.core.now.plan c.args.core.now.state (move_at c.args.kind) 1 (c.loop-below.below + 1) c.loop-below.below _ (omega arith)
    (omega (arith, count)))
    c.loop-below.invariant (rw c.at.ensures at c.put_standing.ensures)

pub loop-below-preserved : goal.loop-below-preserved
loop-below-preserved g c =
    has-same _ (line-next c.args.core.now.plan c.args.core.now.state (move_at c.args.kind) 1 (c.loop-below.below + 1) c.loop-below.below _ (omega arith) refl)
    (has-more c.in_ok-put_standing.was c.loop-below.invariant (rw c.at.ensures at c.put_standing.ensures))
