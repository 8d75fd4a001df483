use Rattle.std.proofs.Common.{◌≡◌, ◌-◌}
use Rattle.order_search.specs.SearchAnswers.{Progress}
use Rattle.order_search.proofs.breadth_first.search.Given as goal

abbrev pub invariant-loop-at : goal.invariant-loop-at
invariant-loop-at g l = record {
  graph : l.graph ≡ l.fn.graph;
  progress : Progress (g.G.Graph.is_node l.fn.graph) (g.G.Graph.leads l.fn.graph) (g.G.Graph.wrong l.fn.graph)
      (g.G.Graph.flawed l.fn.graph) l.fn.first.items l.most l.trail.nodes
      l.trail.entered.items l.trail.rows l.at l.totals.edges l.totals.ends;
}

abbrev pub decreases-loop-at : goal.decreases-loop-at
decreases-loop-at g l = l.most - l.at
