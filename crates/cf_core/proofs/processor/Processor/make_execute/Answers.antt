-- The instruction has nothing left to do in its stage but to send what it owes.
use Rattle.std.proofs.Common.{◌∙◌}
use Rattle.cf_bind.specs.declared.moves.Move.TheVariants.{Execute}
use Rattle.cf_core.proofs.Made.{facts-after}
use Rattle.cf_core.proofs.MoveWords.{execute-marks}
use Rattle.cf_core.proofs.processor.Processor.make_execute.Goals as goal

pub mark_resting-requires-clause-facts : goal.mark_resting-requires-clause-facts
mark_resting-requires-clause-facts c =
    facts-after c.args.self.now c.execute.new.self (Execute c.args.i) c.requires.facts c.requires.allowed c.execute.ensures

pub returns-clause-marks : goal.returns-clause-marks
returns-clause-marks c =
    c.mark_resting.ensures ∙ execute-marks c.args.self.now c.execute.new.self c.args.marks.now c.args.i c.requires.facts c.requires.allowed
    c.execute.ensures c.requires.marks
