use Rattle.std.proofs.Common.{◌-◌, refl, arith}
use Rattle.cf_report.proofs.Puttings.{has-front, has-more, has-same}
use Rattle.cf_report.proofs.Pictures.{stage-next, stages-below}
use Rattle.order_report.proofs.picture.put_stages.Goals as goal

pub returns-in_err-put_stage : goal.returns-in_err-put_stage
returns-in_err-put_stage g c =
    has-front _ c.in_err-put_stage.was c.from_residual.ensures.0
    (stages-below c.args.cells.now c.loop-stage.stage c.cell_at.result c.cell_at.ensures) c.loop-stage.invariant.put c.put_stage.ensures

pub loop-stage-preserved : goal.loop-stage-preserved
loop-stage-preserved g c = record {
  put = has-same _ (stage-next c.args.cells.now c.loop-stage.stage (c.loop-stage.stage - 1) c.cell_at.result refl c.cell_at.ensures)
      (has-more c.in_ok-put_stage.was c.loop-stage.invariant.put c.put_stage.ensures);
  within = omega arith;
}
