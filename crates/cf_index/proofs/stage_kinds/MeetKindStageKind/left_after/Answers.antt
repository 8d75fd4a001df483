use Rattle.cf_bind.specs.declared.moves.Move.TheVariants.{Meet}
use Rattle.cf_index.proofs.LeftStages.{meets_keep, left_alone}
use Rattle.cf_index.proofs.stage_kinds.MeetKindStageKind.left_after.Goals as goal

pub returns : goal.returns
returns c = λ old a processor made.
    left_alone c.args._core.now.plan old c.args._core.now.state a Meet c.args.left c.without_lowest.result c.args._stage meets_keep
    processor made (λ k. c.without_lowest.ensures c.args._stage k made.lowest)
