-- The instruction has nothing left to do in its stage but to send what it owes, and the siding may launch the next one.
use Rattle.std.proofs.Common.{◌∙◌, ap}
use Rattle.cf_bind.specs.declared.moves.Move.TheVariants.{Recover}
use Rattle.cf_core.specs.Marks.{with_launch}
use Rattle.cf_core.specs.declared.marks.Marks.{Marks}
use Rattle.cf_core.proofs.Made.{facts-after, within-after}
use Rattle.cf_core.proofs.MoveWords.{recover-marks}
use Rattle.cf_core.proofs.processor.Processor.make_recover.Goals as goal

pub mark_resting-requires-clause-facts : goal.mark_resting-requires-clause-facts
mark_resting-requires-clause-facts c =
    facts-after c.args.self.now c.recover.new.self (Recover c.args.i) c.requires.facts c.requires.allowed c.recover.ensures

pub mark_entry-requires-clause-within : goal.mark_entry-requires-clause-within
mark_entry-requires-clause-within c =
    within-after c.args.self.now c.recover.new.self (Recover c.args.i) c.touched-sites.result c.requires.facts c.requires.allowed c.recover.ensures
    c.touched-sites.ensures

pub mark_entry-requires-clause-facts : goal.mark_entry-requires-clause-facts
mark_entry-requires-clause-facts c =
    facts-after c.args.self.now c.recover.new.self (Recover c.args.i) c.requires.facts c.requires.allowed c.recover.ensures

pub returns-clause-marks : goal.returns-clause-marks
returns-clause-marks c =
    c.mark_entry.ensures
    ∙ ap (λ (m : Marks). with_launch c.recover.new.self.plan c.recover.new.self.state m c.touched-sites.result.low) c.mark_resting.ensures
    ∙ recover-marks c.args.self.now c.recover.new.self c.args.marks.now c.args.i c.touched-sites.result c.requires.facts c.requires.allowed
    c.recover.ensures c.requires.marks c.touched-sites.ensures
