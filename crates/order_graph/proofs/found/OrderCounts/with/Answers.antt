-- A meeting is counted by the contents of its stage before and after it.
use Rattle.order_graph.proofs.Counted.{meeting_counted}
use Rattle.order_graph.proofs.found.OrderCounts.with.Goals as goal

pub returns-in-Meet : goal.returns-in-Meet
returns-in-Meet c = meeting_counted c.args.trial.now c.args.node.now c.args.next.now c.args.m c.in-Meet.i c.args.self c.with_meeting.result _ _
    c.in-Meet.is c.requires.next c.cell.ensures c.cell-in-Meet.ensures c.with_meeting.ensures
