-- No move leads on if none of all moves does.
use Rattle.order_graph.proofs.Firsts.{none_found}
use Rattle.order_graph.proofs.edges.first_move.Goals as goal

pub returns : goal.returns
returns c =
    none_found c.args.trial.now c.args.node.now c.deref-m-items.result.now c.loop-m.m-index c.loop-m-test.false c.loop-m.invariant.over
