-- The instruction follows its word.
use Rattle.std.proofs.Common.{append_assoc}
use Rattle.cf_report.proofs.stages.push_instruction.Goals as goal

pub returns-clause-text : goal.returns-clause-text
returns-clause-text c = simp (c.push_passenger.ensures.text, c.push.ensures, append_assoc)
