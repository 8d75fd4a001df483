-- The edges of the moves so far, and the memory as it was.
use Rattle.std.proofs.Common.{◌≡◌, map, take}
use Rattle.std.specs.Prelude.{IfNone}
use Rattle.std.specs.List.{All}
use Rattle.order_keys.specs.Keys.{key_of_node}
use Rattle.order_search.specs.Paths.{HasEdgeFault}
use Rattle.order_search.specs.Views.{IsJudged, edge_view}
use Rattle.order_graph.specs.KeyGraph.{IsOrderKey, IsWrongEdge, IsWrongNode, edge_of, moves_from}
use Rattle.order_graph.proofs.edges.edges_of.Given as goal

abbrev pub invariant-loop-m : goal.invariant-loop-m
invariant-loop-m l = record {
  memory : l.mem ≡ l.initial.mem;
  next : l.next ≡ l.node;
  moves : l.m-items ≡ moves_from l.trial l.node;
  edges : map edge_view l.edges.items ≡ map (edge_of l.trial l.node) (take l.m-index l.m-items);
  faults : All (IsJudged (HasEdgeFault (IsWrongEdge l.trial) (IsWrongNode l.trial) (key_of_node l.node))) l.edges.items;
  keys : All (λ edge. IfNone edge.fault (IsOrderKey l.trial edge.node.items)) l.edges.items;
}
