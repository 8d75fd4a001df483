-- If the move is not wrong, the next node may be.
use Rattle.order_graph.proofs.EdgeFacts.{there_told}
use Rattle.order_graph.proofs.edges.fault_along.Goals as goal

pub returns-in-None-clause-fault : goal.returns-in-None-clause-fault
returns-in-None-clause-fault c =
    there_told c.args.trial.now c.args.node.now c.args.next.now c.args.m c.in_ok-kind.field-0 c.fault_there.result c.requires.next c.in-None.is
    c.in_ok-kind.ensures.fault c.fault_there.ensures.fault
