use Rattle.std.proofs.Common.{◌≡◌}
use Rattle.order_graph.specs.OrderAnswers.{states_of}
use Rattle.cli_orders.specs.EdgeTexts.{HasEdgesOf}
use Rattle.cli_orders.proofs.edges.all_edges.Given as goal

-- the moves from the states so far are there, and what was reached is the same
abbrev pub invariant-loop-number : goal.invariant-loop-number
invariant-loop-number l = record {
  edges : HasEdgesOf l.initial.reached.graph.trial (states_of l.initial.reached) l.number l.text.items;
  same : l.reached ≡ l.initial.reached;
}
