-- After the last move, all that lead on have been found.
use Rattle.order_graph.proofs.Unready.{all_kept}
use Rattle.order_graph.proofs.edges.moves_on.Goals as goal

pub returns : goal.returns
returns c = all_kept c.args.trial.now c.args.node.now c.deref-m-items.result.now c.loop-m.moves.items c.loop-m.m-index c.loop-m-test.false
    c.loop-m.invariant.kept
