use Rattle.test_search.proofs.Broken.{both_judged}
use Rattle.test_search.proofs.ladder.LadderGraph.edges.Goals as goal

pub returns-then-number-self-clause-faults : goal.returns-then-number-self-clause-faults
returns-then-number-self-clause-faults c =
    both_judged _ c.args.node.now c.in_ok-edges.edges.items c.in_ok-left.left c.in_ok-right.right _ c.in_ok-edges.ensures.items
    c.in_ok-left.ensures.fault c.in_ok-left.ensures.node c.in_ok-right.ensures.fault c.in_ok-right.ensures.node
