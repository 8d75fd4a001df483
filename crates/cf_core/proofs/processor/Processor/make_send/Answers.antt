-- The instruction owes nothing any more.
use Rattle.std.proofs.Common.{◌∙◌}
use Rattle.cf_core.proofs.MoveWords.{send-marks}
use Rattle.cf_core.proofs.processor.Processor.make_send.Goals as goal

pub returns-clause-marks : goal.returns-clause-marks
returns-clause-marks c =
    c.mark_sent.ensures ∙ send-marks c.args.self.now c.send.new.self c.args.marks.now c.args.i c.requires.facts c.requires.allowed c.send.ensures
    c.requires.marks
