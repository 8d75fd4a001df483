-- A result changes at most whether an operation can be launched from the stage that it comes to.
use Rattle.std.proofs.Common.{◌∙◌, sym, ap, length}
use Rattle.cf_bind.specs.declared.moves.Move.TheVariants.{Emit}
use Rattle.cf_core.specs.Processors.{Processor}
use Rattle.cf_core.proofs.Made.{facts-after, marks-stay}
use Rattle.cf_core.proofs.MoveWords.{emit-marks}
use Rattle.cf_core.proofs.processor.Processor.make_emit.Goals as goal

pub mark_beside_result-requires-clause-facts : goal.mark_beside_result-requires-clause-facts
mark_beside_result-requires-clause-facts c =
    facts-after c.args.self.now c.emit.new.self Emit c.requires.facts c.requires.allowed c.emit.ensures

pub returns-then-not-keeps-clause-marks : goal.returns-then-not-keeps-clause-marks
returns-then-not-keeps-clause-marks c =
    let top = c.count-top.ensures.count ∙ ap (λ (p : Processor). length p.state.cells) c.self.view_is ∙ c.requires.facts.stages in
    c.mark_beside_result.ensures ∙ emit-marks c.args.self.now c.emit.new.self c.args.marks.now c.count-top.result c.requires.facts c.requires.allowed
    c.emit.ensures c.requires.marks top

pub returns-else-not-keeps-clause-marks : goal.returns-else-not-keeps-clause-marks
returns-else-not-keeps-clause-marks c =
    marks-stay c.args.self.now c.emit.new.self c.args.marks.now Emit c.requires.allowed c.emit.ensures c.requires.marks
    (sym c.emit_keeps-keeps.ensures ∙ c.if-not-keeps.false)
