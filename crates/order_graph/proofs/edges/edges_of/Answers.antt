-- One edge after another, with the memory as it was.
use Rattle.std.proofs.Common.{◌∙◌}
use Rattle.std.specs.Prelude.{IfNone}
use Rattle.order_claims.specs.declared.wrong_kind.WrongKind.{WrongKind}
use Rattle.cf_bind.specs.declared.moves.Move.{Move}
use Rattle.order_search.specs.declared.graph.Edge.{Edge}
use Rattle.order_keys.specs.Keys.{key_of_node}
use Rattle.order_search.specs.Paths.{HasEdgeFault}
use Rattle.order_search.specs.Views.{IsJudged}
use Rattle.order_graph.specs.KeyGraph.{IsOrderKey, IsWrongEdge, IsWrongNode, edge_of}
use Rattle.order_graph.proofs.EdgeFacts.{all_grown, edges_grown}
use Rattle.order_graph.proofs.edges.edges_of.Goals as goal

pub loop-m-preserved : goal.loop-m-preserved
loop-m-preserved c = record {
  memory = c.in_ok-judged.ensures.kept ∙ c.loop-m.invariant.memory;
  next = c.in_ok-judged.ensures.next;
  moves = c.loop-m.invariant.moves;
  edges = edges_grown (edge_of c.args.trial.now c.args.node.now) c.loop-m.edges.items c.push.new.self.items c.in_ok-judged.judged c.deref-m-items.result.now
      c.loop-m.m-index _
      c.in_ok-push.ensures.items c.loop-m.invariant.edges c.loop-m-test.true c.in_ok-judged.ensures.edge;
  faults = all_grown (IsJudged (HasEdgeFault (IsWrongEdge c.args.trial.now) (IsWrongNode c.args.trial.now) (key_of_node c.args.node.now))) c.loop-m.edges.items
      c.push.new.self.items c.in_ok-judged.judged c.in_ok-push.ensures.items c.loop-m.invariant.faults c.in_ok-judged.ensures.fault;
  keys = all_grown (λ (e : Edge Move WrongKind). IfNone e.fault (IsOrderKey c.args.trial.now e.node.items)) c.loop-m.edges.items c.push.new.self.items
      c.in_ok-judged.judged c.in_ok-push.ensures.items c.loop-m.invariant.keys c.in_ok-judged.ensures.key;
}
