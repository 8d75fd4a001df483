-- The lowest bit of the word above the stage.
use Rattle.cf_core.proofs.Blocks.{first-block}
use Rattle.cf_core.proofs.processor.Processor.first_block.Goals as goal

pub returns : goal.returns
returns c =
    first-block c.args.self.now.plan c.args.self.now.state c.args.passenger.now c.blocks-2.result c.args.i c.know_stages.ensures c.blocks-2.ensures
    c.requires.below
