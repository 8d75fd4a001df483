-- The line of the next stage follows those so far.
use Rattle.std.proofs.Common.{◌-◌, refl, arith}
use Rattle.cf_report.proofs.Puttings.{has-front, has-more, has-same, put-all}
use Rattle.cli_time.specs.SiteLines.{falling_stages, stage_use_line}
use Rattle.cli_time.proofs.Listed.{falling-at, length-falling, texts-all, texts-after, texts-next}
use Rattle.cli_time.proofs.site_lines.put_stages.Goals as goal

pub returns-in_err-put_stage : goal.returns-in_err-put_stage
returns-in_err-put_stage g c =
    let made = c.args.made.now in
    let is = c.stages-stages.ensures.stages in
    has-front _ c.in_err-put_stage.was c.from_residual.ensures.0
    (texts-after (stage_use_line made) (falling_stages made) c.loop-above.above (c.stages-stages.result - c.loop-above.above)
    (rw is (falling-at made.layout.stages c.loop-above.above (omega (arith, is, c.loop-above-test.true)))))
    c.loop-above.invariant c.put_stage.ensures

pub loop-above-preserved : goal.loop-above-preserved
loop-above-preserved g c =
    let made = c.args.made.now in
    let is = c.stages-stages.ensures.stages in
    has-same _ (texts-next (stage_use_line made) (falling_stages made) c.loop-above.above (c.stages-stages.result - c.loop-above.above)
    (rw is (falling-at made.layout.stages c.loop-above.above (omega (arith, is, c.loop-above-test.true)))))
    (has-more c.in_ok-put_stage.was c.loop-above.invariant c.put_stage.ensures)

pub returns : goal.returns
returns g c =
    let made = c.args.made.now in
    let is = c.stages-stages.ensures.stages in
    let size = length-falling made.layout.stages in
    put-all _ _ refl (texts-all (stage_use_line made) (falling_stages made) c.loop-above.above (omega (arith, is, size, c.loop-above-test.false)))
    c.loop-above.invariant
