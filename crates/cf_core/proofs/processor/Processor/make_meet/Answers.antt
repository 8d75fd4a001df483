-- The marks stay, or those of the stage that the meeting can have changed are brought up to date.
use Rattle.std.proofs.Common.{◌∙◌, sym}
use Rattle.cf_bind.specs.declared.moves.Move.TheVariants.{Meet}
use Rattle.cf_core.proofs.Made.{facts-after, marks-stay}
use Rattle.cf_core.proofs.Readied.{meet-marks, meet-there}
use Rattle.cf_core.proofs.processor.Processor.make_meet.Goals as goal

pub mark_met-requires-clause-facts : goal.mark_met-requires-clause-facts
mark_met-requires-clause-facts c =
    facts-after c.args.self.now c.meet-event.new.self (Meet c.args.i) c.requires.facts c.requires.allowed c.meet-event.ensures.processor

pub mark_met-requires-clause-here : goal.mark_met-requires-clause-here
mark_met-requires-clause-here c = meet-there c.args.self.now c.meet-event.new.self c.args.i c.requires.allowed c.meet-event.ensures.processor

pub returns-then-keeps-clause-marks : goal.returns-then-keeps-clause-marks
returns-then-keeps-clause-marks c =
    marks-stay c.args.self.now c.meet-event.new.self c.args.marks.now (Meet c.args.i) c.requires.allowed c.meet-event.ensures.processor
    c.requires.marks (sym c.meet_keeps-keeps.ensures ∙ c.if-keeps.true)

pub returns-clause-marks : goal.returns-clause-marks
returns-clause-marks c =
    c.mark_met.ensures ∙ meet-marks c.args.self.now c.meet-event.new.self c.args.marks.now c.args.i c.requires.facts c.requires.allowed
    c.meet-event.ensures.processor c.requires.marks
