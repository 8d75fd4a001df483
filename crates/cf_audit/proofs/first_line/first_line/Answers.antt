use Rattle.cf_audit.proofs.FirstLines.{first_there, first_not}
use Rattle.cf_audit.proofs.first_line.first_line.Goals as goal

pub returns-then-end-text : goal.returns-then-end-text
returns-then-end-text c = first_there _ _ c.find_byte-end.ensures.index c.if-end-text.true

pub returns-else-end-text : goal.returns-else-end-text
returns-else-end-text c = first_not _ _ c.find_byte-end.ensures.index c.if-end-text.false
