use Rattle.cf_audit.proofs.FirstLines.{no_front, no_line, told_first}
use Rattle.cf_audit.proofs.first_line.recorded_move.Goals as goal

pub returns-in_err-after_number : goal.returns-in_err-after_number
returns-in_err-after_number c = rw c.from_residual.ensures (no_front _ _ c.in_err-after_number.ensures)

pub returns-in_err-first_line : goal.returns-in_err-first_line
returns-in_err-first_line c = rw c.from_residual-in_err-first_line.ensures (no_line _ _ _ c.in_ok-after_number.ensures c.in_err-first_line.ensures)

pub returns : goal.returns
returns c = told_first _ _ _ _ _ c.in_ok-after_number.ensures c.in_ok-first_line.ensures c.move_of.ensures
