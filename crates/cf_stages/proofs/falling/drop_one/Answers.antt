-- The bit words follow a result to the stage below.
use Rattle.cf_stages.proofs.Written.{fallen-is, fallen-parts}
use Rattle.cf_stages.proofs.falling.drop_one.Goals as goal

pub returns-clause-parts : goal.returns-clause-parts
returns-clause-parts c =
    fallen-parts _ _ _ _ _ _ _ c.args.i _ c.requires.parts c.requires.falls c.lowered-flying.ensures c.with_bit-met.ensures

pub returns-clause-cells : goal.returns-clause-cells
returns-clause-cells c =
    fallen-is _ _ _ _ _ _ _ c.args.i _ c.requires.parts c.requires.falls c.lowered-flying.ensures c.with_bit-met.ensures
