use Rattle.std.proofs.Common.{arith, ◌∙◌}
use Rattle.cf_layout.proofs.Words.{stage_listed, stages_listed}
use Rattle.cf_layout.proofs.stage_set.StageSet.list.Goals as goal

pub loop-stage-preserved : goal.loop-stage-preserved
loop-stage-preserved c = stage_listed c.self.inside.word c.loop-stage.stage _ _ _ (omega arith) (omega arith) c.in_ok-add_stage.ensures c.loop-stage.invariant

pub returns : goal.returns
returns c = stages_listed c.self.inside.word c.loop-stage.stage _ (omega arith) (omega arith) c.loop-stage.invariant ∙ c.self.view_is
