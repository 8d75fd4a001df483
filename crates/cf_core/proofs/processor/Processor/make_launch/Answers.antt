-- The instruction has nothing left to do in its stage but to send what it owes, and the operation may be at the end of the siding at once.
use Rattle.std.proofs.Common.{◌∙◌, ap}
use Rattle.cf_bind.specs.declared.moves.Move.TheVariants.{Launch}
use Rattle.cf_core.specs.Marks.{with_recover}
use Rattle.cf_core.specs.declared.marks.Marks.{Marks}
use Rattle.cf_core.proofs.Made.{facts-after, within-after}
use Rattle.cf_core.proofs.MoveWords.{launch-marks}
use Rattle.cf_core.proofs.processor.Processor.make_launch.Goals as goal

pub mark_resting-requires-clause-facts : goal.mark_resting-requires-clause-facts
mark_resting-requires-clause-facts c =
    facts-after c.args.self.now c.launch.new.self (Launch c.args.i) c.requires.facts c.requires.allowed c.launch.ensures

pub mark_return-requires-clause-within : goal.mark_return-requires-clause-within
mark_return-requires-clause-within c =
    within-after c.args.self.now c.launch.new.self (Launch c.args.i) c.touched-sites.result c.requires.facts c.requires.allowed c.launch.ensures
    c.touched-sites.ensures

pub mark_return-requires-clause-facts : goal.mark_return-requires-clause-facts
mark_return-requires-clause-facts c =
    facts-after c.args.self.now c.launch.new.self (Launch c.args.i) c.requires.facts c.requires.allowed c.launch.ensures

pub returns-clause-marks : goal.returns-clause-marks
returns-clause-marks c =
    c.mark_return.ensures
    ∙ ap (λ (m : Marks). with_recover c.launch.new.self.plan c.launch.new.self.state m c.touched-sites.result.high) c.mark_resting.ensures
    ∙ launch-marks c.args.self.now c.launch.new.self c.args.marks.now c.args.i c.touched-sites.result c.requires.facts c.requires.allowed
    c.launch.ensures c.requires.marks c.touched-sites.ensures
