use Rattle.cf_timed.proofs.MakingDue.{due_nearer, leads_on}
use Rattle.cf_timed.proofs.making_due.make_due_moves.Goals as goal

pub loop-clock-smaller : goal.loop-clock-smaller
loop-clock-smaller c =
    due_nearer _ _ _ _ _ c.make_if_no_issue.ensures.keeps.come
    (leads_on _ _ _ _ _ c.loop-clock.invariant.leads c.make_if_no_issue.ensures.leads)
    (c.make_if_no_issue.ensures.some c.loop-clock-test.true)
