use Rattle.report_closing.specs.Lines.{barred_line}
use Rattle.report_closing.proofs.Texts.{line-of-two}
use Rattle.report_closing.proofs.first_line.push_barred.Goals as goal

pub returns-clause-text : goal.returns-clause-text
unfolding barred_line
returns-clause-text c = line-of-two _ _ _ _ _ _ c.push_place.ensures.text c.push_bar.ensures.text c.push.ensures
