use Rattle.cf_layout.proofs.Words.{stages_by}
use Rattle.cf_layout.proofs.stage_set.StageSet.of.Goals as goal

pub returns : goal.returns
returns c = stages_by c.loop-stage.word c.loop-stage.stage-index c.args.stages.now c.loop-stage-test.false c.loop-stage.invariant.bits
