use Rattle.std.proofs.Common.{◌≡◌, ◌+◌, ◌<◌, ◌++◌, length, map, take}
use Rattle.std.specs.Prelude.{IfNone}
use Rattle.std.specs.List.{All}
use Rattle.std.specs.Vec.Iter.{into_iter_items}
use Rattle.order_search.specs.Numbers.{node_at}
use Rattle.order_search.specs.Paths.{HasEdgeFault}
use Rattle.order_search.specs.Rows.{AreTargets}
use Rattle.order_search.specs.SearchAnswers.{IsUnderWay}
use Rattle.order_search.specs.Views.{IsJudged, edge_view}
use Rattle.order_search.proofs.breadth_first.go_through.Given as goal

abbrev pub invariant-loop-edge : goal.invariant-loop-edge
invariant-loop-edge g l = record {
  under_way : IsUnderWay (g.G.Graph.is_node l.fn.graph) (g.G.Graph.leads l.fn.graph) (g.G.Graph.wrong l.fn.graph) (g.G.Graph.flawed l.fn.graph)
      (node_at l.fn.trail.nodes 0) l.most
      l.trail.nodes l.trail.entered.items l.trail.rows l.at (length l.yielded);
  rest : map edge_view l.yielded ++ map edge_view (into_iter_items l.edge-iterator) ≡ g.G.Graph.leads l.fn.graph (node_at l.fn.trail.nodes l.at);
  judged : All (IsJudged (HasEdgeFault (g.G.Graph.wrong l.fn.graph) (g.G.Graph.flawed l.fn.graph)
      (node_at l.fn.trail.nodes l.at))) (into_iter_items l.edge-iterator);
  all_known : All (λ edge. IfNone edge.fault (g.G.Graph.is_node l.fn.graph edge.node.items)) (into_iter_items l.edge-iterator);
  row : AreTargets l.trail.nodes l.row.items (map edge_view l.yielded);
  inside : l.at < length l.trail.nodes;
  node : node_at l.trail.nodes l.at ≡ node_at l.fn.trail.nodes l.at;
  same : take (l.at + 1) l.trail.nodes ≡ take (l.at + 1) l.fn.trail.nodes;
}
