-- Only whether Memory's siding recovers has changed.
use Rattle.std.proofs.Common.{◌∙◌}
use Rattle.cf_bind.specs.declared.moves.Move.TheVariants.{Access}
use Rattle.cf_core.proofs.Made.{facts-after, within-after}
use Rattle.cf_core.proofs.MoveWords.{access-marks}
use Rattle.cf_core.proofs.processor.Processor.make_access.Goals as goal

pub mark_return-requires-clause-within : goal.mark_return-requires-clause-within
mark_return-requires-clause-within c =
    within-after c.args.self.now c.access.new.self Access c.touched-port.result c.requires.facts c.requires.allowed c.access.ensures c.touched-port.ensures

pub mark_return-requires-clause-facts : goal.mark_return-requires-clause-facts
mark_return-requires-clause-facts c = facts-after c.args.self.now c.access.new.self Access c.requires.facts c.requires.allowed c.access.ensures

pub returns-clause-marks : goal.returns-clause-marks
returns-clause-marks c =
    c.mark_return.ensures ∙ access-marks c.args.self.now c.access.new.self c.args.marks.now c.touched-port.result c.requires.facts c.requires.allowed
    c.access.ensures c.requires.marks c.touched-port.ensures
