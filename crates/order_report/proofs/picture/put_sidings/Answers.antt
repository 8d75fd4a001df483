use Rattle.std.proofs.Common.{◌≡◌, ℕ, List, [], Option, Some, ap}
use Rattle.std.specs.Prelude.{slice_get}
use Rattle.cf_bind.specs.declared.cell.Op.{Op}
use Rattle.cf_semantics.specs.state.Options.{on}
use Rattle.cf_report.proofs.Puttings.{has-front, has-more, has-same, put-nothing}
use Rattle.cf_report.proofs.Pictures.{siding-next, sidings-after}
use Rattle.order_report.proofs.picture.put_sidings.Goals as goal

held : (sidings : List (List (Option Op))) (k : ℕ) (ops : List (Option Op)) → Some ops ≡ slice_get sidings k →
    ops ≡ on (slice_get sidings k) [] (λ o. o)
held sidings k ops here = ap (λ (o : Option (List (Option Op))). on o [] (λ x. x)) here

pub loop-siding-init : goal.loop-siding-init
loop-siding-init g c = put-nothing _ _

pub returns-in_err-put_siding : goal.returns-in_err-put_siding
returns-in_err-put_siding g c =
    has-front _ c.in_err-put_siding.was c.from_residual.ensures.0
    (sidings-after c.args.sidings.now c.loop-siding.siding) c.loop-siding.invariant
    (rw (held c.args.sidings.now c.loop-siding.siding c.ops_of.result.now c.ops_of.ensures.cells) at c.put_siding.ensures)

pub loop-siding-preserved : goal.loop-siding-preserved
loop-siding-preserved g c =
    has-same _ (siding-next c.args.sidings.now c.loop-siding.siding)
    (has-more c.in_ok-put_siding.was c.loop-siding.invariant (rw (held c.args.sidings.now c.loop-siding.siding c.ops_of.result.now c.ops_of.ensures.cells) at
    c.put_siding.ensures))
