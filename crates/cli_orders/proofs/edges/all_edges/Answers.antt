use Rattle.std.proofs.Common.{ℕ, ◌+◌, ◌++◌, ◌∙◌, List, ap, subst, sym}
use Rattle.std.specs.List.{flat_map}
use Rattle.order_graph.specs.OrderAnswers.{AreNumberedMoves, states_of}
use Rattle.order_graph.specs.declared.reached.OrdersReached.{OrdersReached}
use Rattle.cli_orders.specs.EdgeTexts.{HasEdgesOf, edge_line}
use Rattle.cli_orders.proofs.EdgeRows.{edges_next}
use Rattle.cli_orders.proofs.edges.all_edges.Goals as goal

pub loop-number-preserved : goal.loop-number-preserved
loop-number-preserved c =
    let r : OrdersReached = c.args.reached.now in
    let here = subst (λ (x : OrdersReached). AreNumberedMoves x.graph.trial (states_of x) c.loop-number.number c.in_ok-row.row.items)
    c.loop-number.invariant.same
    c.in_ok-row.ensures.moves in
    let text = c.in_ok-push_row.ensures ∙ ap (λ row. c.loop-number.text.items ++ flat_map (edge_line c.loop-number.number) row) c.as_slice.ensures.value in
    record {
      edges = subst (λ (text : List ℕ). HasEdgesOf r.graph.trial (states_of r) (c.loop-number.number + 1) text) (sym text)
          (edges_next r.graph.trial (states_of r) c.loop-number.number c.loop-number.text.items c.in_ok-row.row.items c.loop-number.invariant.edges here);
      same = c.in_ok-row.ensures.same ∙ c.loop-number.invariant.same;
    }
