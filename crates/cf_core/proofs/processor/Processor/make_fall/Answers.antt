-- A result changes at most whether an operation can be launched from the stage that it comes to.
use Rattle.std.proofs.Common.{◌∙◌, sym}
use Rattle.cf_bind.specs.declared.moves.Move.TheVariants.{Fall}
use Rattle.cf_core.proofs.Made.{facts-after, marks-stay}
use Rattle.cf_core.proofs.MoveWords.{fall-marks}
use Rattle.cf_core.proofs.processor.Processor.make_fall.Goals as goal

pub mark_beside_result-requires-clause-facts : goal.mark_beside_result-requires-clause-facts
mark_beside_result-requires-clause-facts c =
    facts-after c.args.self.now c.fall.new.self (Fall c.args.i) c.requires.facts c.requires.allowed c.fall.ensures

pub returns-then-not-keeps-clause-marks : goal.returns-then-not-keeps-clause-marks
returns-then-not-keeps-clause-marks c =
    c.mark_beside_result.ensures ∙ fall-marks c.args.self.now c.fall.new.self c.args.marks.now c.args.i c.requires.facts c.requires.allowed
    c.fall.ensures c.requires.marks

pub returns-else-not-keeps-clause-marks : goal.returns-else-not-keeps-clause-marks
returns-else-not-keeps-clause-marks c =
    marks-stay c.args.self.now c.fall.new.self c.args.marks.now (Fall c.args.i) c.requires.allowed c.fall.ensures c.requires.marks
    (sym c.fall_keeps-keeps.ensures ∙ c.if-not-keeps.false)
