use Rattle.cf_bind.specs.declared.moves.Move.TheVariants.{Launch}
use Rattle.cf_index.proofs.LeftStages.{left_past}
use Rattle.cf_index.proofs.stage_kinds.LaunchKindStageKind.left_after.Goals as goal

pub returns : goal.returns
returns c = λ old a processor made.
    left_past c.args.core.now.plan c.args.core.now.state Launch c.left.result c.past.result c.args.i c.left.ensures.stages c.past.ensures
