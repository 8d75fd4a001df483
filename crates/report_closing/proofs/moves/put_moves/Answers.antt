-- The lines of the next part follow those so far.
use Rattle.std.proofs.Common.{refl}
use Rattle.cf_report.proofs.Puttings.{has-front, has-more, has-same, put-all}
use Rattle.report_closing.proofs.Listed.{parts-next, parts-after, parts-done}
use Rattle.report_closing.proofs.moves.put_moves.Goals as goal

pub returns-in_err-put_part : goal.returns-in_err-put_part
returns-in_err-put_part g c =
    has-front _ c.in_err-put_part.was c.from_residual.ensures.0
    (parts-after c.args.core.now.plan c.args.core.now.state c.loop-part.part-index _ _ c.as_slice-part-items.ensures c.loop-part-test.true)
    c.loop-part.invariant c.put_part.ensures

pub loop-part-preserved : goal.loop-part-preserved
loop-part-preserved g c =
    has-same _ (parts-next c.args.core.now.plan c.args.core.now.state c.loop-part.part-index _ _ c.as_slice-part-items.ensures c.loop-part-test.true)
    (has-more c.in_ok-put_part.was c.loop-part.invariant c.put_part.ensures)

pub returns : goal.returns
returns g c =
    put-all _ _ refl (parts-done c.args.core.now.plan c.args.core.now.state c.loop-part.part-index _ c.as_slice-part-items.ensures c.loop-part-test.false)
    c.loop-part.invariant
