-- Only whether the siding launches and whether it recovers has changed.
use Rattle.std.proofs.Common.{◌∙◌}
use Rattle.cf_bind.specs.declared.moves.Move.TheVariants.{Slide}
use Rattle.cf_core.proofs.Made.{facts-after, within-after}
use Rattle.cf_core.proofs.MoveWords.{slide-marks}
use Rattle.cf_core.proofs.processor.Processor.make_slide.Goals as goal

pub mark_siding-requires-clause-within : goal.mark_siding-requires-clause-within
mark_siding-requires-clause-within c =
    within-after c.args.self.now c.slide.new.self (Slide c.args.k c.args.c) c.touched-sites.result
    c.requires.facts c.requires.allowed c.slide.ensures c.touched-sites.ensures

pub mark_siding-requires-clause-facts : goal.mark_siding-requires-clause-facts
mark_siding-requires-clause-facts c =
    facts-after c.args.self.now c.slide.new.self (Slide c.args.k c.args.c) c.requires.facts c.requires.allowed c.slide.ensures

pub returns-clause-marks : goal.returns-clause-marks
returns-clause-marks c =
    c.mark_siding.ensures ∙ slide-marks c.args.self.now c.slide.new.self c.args.marks.now c.args.k c.args.c c.touched-sites.result c.requires.facts
    c.requires.allowed c.slide.ensures c.requires.marks c.touched-sites.ensures
