use Rattle.cf_bind.specs.declared.moves.Move.TheVariants.{Send}
use Rattle.cf_index.proofs.LeftStages.{sends_keep, left_alone}
use Rattle.cf_index.proofs.stage_kinds.SendKindStageKind.left_after.Goals as goal

pub returns : goal.returns
returns c = λ old a processor made.
    left_alone c.args._core.now.plan old c.args._core.now.state a Send c.args.left c.without_lowest.result c.args._stage sends_keep
    processor made (λ k. c.without_lowest.ensures c.args._stage k made.lowest)
