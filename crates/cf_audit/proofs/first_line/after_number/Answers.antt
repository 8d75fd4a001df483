use Rattle.std.proofs.Common.{◌∙◌}
use Rattle.cf_audit.proofs.first_line.after_number.Goals as goal

pub returns : goal.returns
returns c = rw (c.bytes.ensures ∙ c.move_number-front.ensures) at c.after.ensures
