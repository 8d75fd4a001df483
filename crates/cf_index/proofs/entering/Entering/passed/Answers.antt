use Rattle.std.proofs.Common.{◌∙◌, sym}
use Rattle.cf_index.proofs.FirstsAfter.{no_issue_first}
use Rattle.cf_index.proofs.PassedEnds.{entering_all}
use Rattle.cf_index.proofs.entering.Entering.passed.Goals as goal

pub returns-in_default-clause-count : goal.returns-in_default-clause-count
returns-in_default-clause-count c = c.len.ensures.count ∙ sym (entering_all c.args.self.now c.args.last (no_issue_first c.args.last c.in_default.not-Issue))
