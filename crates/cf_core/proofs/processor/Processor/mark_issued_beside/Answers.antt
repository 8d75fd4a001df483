-- Where its siding launches from a higher stage, nothing is marked.
use Rattle.cf_core.proofs.IssueMarks.{issued-passing}
use Rattle.cf_core.proofs.processor.Processor.mark_issued_beside.Goals as goal

pub returns-else-site-eq1 : goal.returns-else-site-eq1
returns-else-site-eq1 c =
    issued-passing c.args.self.now.plan c.args.self.now.state c.args.marks.now c.args.passenger.now c.args.site.now.number c.args.site.now.launch
    c.requires.facts.accepted c.requires.stands.2 c.requires.stands.4 c.requires.site.launch c.if-site-eq1.false c.requires.new c.requires.unmarked
