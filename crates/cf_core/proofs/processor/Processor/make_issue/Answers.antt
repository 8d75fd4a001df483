-- Only the lowest stage is marked, where nothing was marked before.
use Rattle.std.proofs.Common.{◌∙◌}
use Rattle.cf_bind.specs.declared.moves.Move.TheVariants.{Issue}
use Rattle.cf_core.proofs.IssueMarks.{issue-marks, issue-new, issue-unmarked}
use Rattle.cf_core.proofs.Made.{facts-after}
use Rattle.cf_core.proofs.processor.Processor.make_issue.Goals as goal

pub mark_issued-requires-clause-facts : goal.mark_issued-requires-clause-facts
mark_issued-requires-clause-facts c =
    facts-after c.args.self.now c.issue.new.self (Issue c.args.guess) c.requires.facts c.requires.allowed c.issue.ensures

pub mark_issued-requires-clause-new : goal.mark_issued-requires-clause-new
mark_issued-requires-clause-new c = issue-new c.args.self.now c.issue.new.self c.args.guess c.requires.facts c.requires.allowed c.issue.ensures

pub mark_issued-requires-clause-unmarked : goal.mark_issued-requires-clause-unmarked
mark_issued-requires-clause-unmarked c =
    issue-unmarked c.args.self.now.plan c.args.self.now.state c.args.marks.now c.args.guess c.requires.facts c.requires.allowed c.requires.marks

pub returns-clause-marks : goal.returns-clause-marks
returns-clause-marks c =
    c.mark_issued.ensures ∙ issue-marks c.args.self.now c.issue.new.self c.args.marks.now c.args.guess c.requires.facts c.requires.allowed c.issue.ensures
    c.requires.marks
