use Rattle.std.proofs.Common.{arith, ◌+◌, ◌∙◌, ◌≡◌, length, map, ap, sym, subst, refl, ◌++◌, ◌∷◌, []}
use Rattle.std.specs.Prelude.{IfNone}
use Rattle.std.specs.List.{All}
use Rattle.std.proofs.lemmas.List.{map-append, append-nil, length-append, length-map, nil_from_length}
use Rattle.std.proofs.lemmas.List.Elements.{All-head, All-tail}
use Rattle.std.specs.Vec.Iter.{into_iter_items}
use Rattle.order_search.specs.Numbers.{node_at}
use Rattle.order_search.specs.Paths.{HasEdgeFault}
use Rattle.order_search.specs.Rows.{AreTargets}
use Rattle.order_search.specs.SearchAnswers.{IsUnderWay}
use Rattle.order_search.specs.Views.{IsJudged, edge_view}
use Rattle.order_search.proofs.Turns.{reread, leads_to_node, leaving, moved, passed, found, earlier, inside_still, too_many, went_on, row_on, row_done}
use Rattle.order_search.proofs.breadth_first.go_through.Goals as goal

pub pass-requires-clause-few : goal.pass-requires-clause-few
pass-requires-clause-few g c = omega (arith, c.loop-edge.invariant.under_way.room)

pub pass-requires-clause-judged : goal.pass-requires-clause-judged
pass-requires-clause-judged g c =
    subst (λ node. IsJudged (HasEdgeFault (g.G.Graph.wrong c.args.graph.now) (g.G.Graph.flawed c.args.graph.now) node) c.in-Some.edge)
    (sym c.loop-edge.invariant.node)
    (All-head (IsJudged (HasEdgeFault (g.G.Graph.wrong c.args.graph.now) (g.G.Graph.flawed c.args.graph.now) (node_at c.args.trail.now.nodes c.args.at)))
    c.in-Some.edge (into_iter_items c.next.new.self)
    (subst (All (IsJudged (HasEdgeFault (g.G.Graph.wrong c.args.graph.now) (g.G.Graph.flawed c.args.graph.now)
    (node_at c.args.trail.now.nodes c.args.at)))) c.in-Some.ensures.steps.0 c.loop-edge.invariant.judged))

pub labels-requires-clause-earlier : goal.labels-requires-clause-earlier
labels-requires-clause-earlier g c =
    earlier (g.G.Graph.is_node c.args.graph.now) (g.G.Graph.leads c.args.graph.now) (g.G.Graph.wrong c.args.graph.now)
    (g.G.Graph.flawed c.args.graph.now) _ _ _ _ _ _ _
    (edge_view c.in-Some.edge) c.in-Fault.fault
    (reread (g.G.Graph.wrong c.args.graph.now) (g.G.Graph.flawed c.args.graph.now) _ _ _ _ _ _ _ _ c.in-Fault.is
    c.in_ok-fault.ensures.passed)
    c.loop-edge.invariant.under_way.explored

pub labels-requires-clause-inside : goal.labels-requires-clause-inside
labels-requires-clause-inside g c =
    inside_still (g.G.Graph.is_node c.args.graph.now) (g.G.Graph.leads c.args.graph.now) (g.G.Graph.wrong c.args.graph.now)
    (g.G.Graph.flawed c.args.graph.now) _ _ _ _ _ _ _
    (edge_view c.in-Some.edge) c.in-Fault.fault c.loop-edge.invariant.inside
    (reread (g.G.Graph.wrong c.args.graph.now) (g.G.Graph.flawed c.args.graph.now) _ _ _ _ _ _ _ _ c.in-Fault.is
    c.in_ok-fault.ensures.passed)
    c.loop-edge.invariant.under_way.explored

pub returns-in-Fault : goal.returns-in-Fault
returns-in-Fault g c =
    found (g.G.Graph.is_node c.args.graph.now) (g.G.Graph.leads c.args.graph.now) (g.G.Graph.wrong c.args.graph.now)
    (g.G.Graph.flawed c.args.graph.now) _ _ _ _ _ _ _ c.args.most
    (edge_view c.in-Some.edge) c.in-Fault.fault
    c.in_ok-labels-in-Fault.labels.items c.loop-edge.invariant.inside c.loop-edge.invariant.under_way.room
    (leaving edge_view (g.G.Graph.leads c.args.graph.now) c.loop-edge.yielded (into_iter_items c.loop-edge.edge-iterator)
    (into_iter_items c.next.new.self) c.in-Some.edge
    (node_at c.args.trail.now.nodes c.args.at)
    (node_at c.loop-edge.trail.nodes c.args.at) c.in-Some.ensures.steps.0 c.loop-edge.invariant.rest c.loop-edge.invariant.node)
    (reread (g.G.Graph.wrong c.args.graph.now) (g.G.Graph.flawed c.args.graph.now) _ _ _ _ _ _ _ _ c.in-Fault.is
    c.in_ok-fault.ensures.passed)
    c.in_ok-labels-in-Fault.ensures c.loop-edge.invariant.under_way.explored

pub returns-then-len-most : goal.returns-then-len-most
returns-then-len-most g c =
    let all = subst (All (λ edge. IfNone edge.fault
    (g.G.Graph.is_node c.args.graph.now edge.node.items))) c.in-Some.ensures.steps.0 c.loop-edge.invariant.all_known in
    let judged = subst (λ node. IsJudged (HasEdgeFault (g.G.Graph.wrong c.args.graph.now) (g.G.Graph.flawed c.args.graph.now) node) c.in-Some.edge)
    (sym c.loop-edge.invariant.node)
    (All-head (IsJudged (HasEdgeFault (g.G.Graph.wrong c.args.graph.now) (g.G.Graph.flawed c.args.graph.now) (node_at c.args.trail.now.nodes c.args.at)))
    c.in-Some.edge (into_iter_items c.next.new.self)
    (subst (All (IsJudged (HasEdgeFault (g.G.Graph.wrong c.args.graph.now) (g.G.Graph.flawed c.args.graph.now)
    (node_at c.args.trail.now.nodes c.args.at)))) c.in-Some.ensures.steps.0 c.loop-edge.invariant.judged)) in
    let goes = reread (g.G.Graph.wrong c.args.graph.now) (g.G.Graph.flawed c.args.graph.now) _ _ _ _ _ _ _ _ c.in-Node.is
    c.in_ok-fault.ensures.passed in
    let on = passed (g.G.Graph.is_node c.args.graph.now) (g.G.Graph.leads c.args.graph.now) (g.G.Graph.wrong c.args.graph.now)
    (g.G.Graph.flawed c.args.graph.now)
    (node_at c.args.trail.now.nodes 0) c.loop-edge.trail.nodes c.pass.new.trail.nodes c.loop-edge.trail.entered.items c.pass.new.trail.entered.items
    c.args.at (length c.loop-edge.yielded) (edge_view c.in-Some.edge) c.in-Node.number c.loop-edge.invariant.inside
    (leaving edge_view (g.G.Graph.leads c.args.graph.now) c.loop-edge.yielded (into_iter_items c.loop-edge.edge-iterator)
    (into_iter_items c.next.new.self) c.in-Some.edge
    (node_at c.args.trail.now.nodes c.args.at)
    (node_at c.loop-edge.trail.nodes c.args.at) c.in-Some.ensures.steps.0 c.loop-edge.invariant.rest c.loop-edge.invariant.node)
    goes c.loop-edge.invariant.under_way.all_known
    (leads_to_node (g.G.Graph.is_node c.args.graph.now c.in-Some.edge.node.items) (g.G.Graph.wrong c.args.graph.now) (g.G.Graph.flawed c.args.graph.now)
    c.loop-edge.trail.nodes c.pass.new.trail.nodes c.loop-edge.trail.entered.items c.pass.new.trail.entered.items c.args.at c.in-Node.number
    (edge_view c.in-Some.edge)
    c.in-Some.edge.fault goes judged (All-head (λ edge. IfNone edge.fault (g.G.Graph.is_node c.args.graph.now edge.node.items)) c.in-Some.edge
    (into_iter_items c.next.new.self) all))
    c.loop-edge.invariant.under_way.explored in
    too_many (g.G.Graph.is_node c.args.graph.now) (g.G.Graph.leads c.args.graph.now) (g.G.Graph.wrong c.args.graph.now)
    (g.G.Graph.flawed c.args.graph.now) (node_at c.args.trail.now.nodes 0)
    c.loop-edge.trail.nodes c.pass.new.trail.nodes c.loop-edge.trail.entered.items c.pass.new.trail.entered.items c.args.at (length c.loop-edge.yielded)
    c.args.most c.in-Node.number (edge_view c.in-Some.edge) c.loop-edge.invariant.inside (omega arith) on

pub loop-edge-preserved : goal.loop-edge-preserved
loop-edge-preserved g c =
    let all = subst (All (λ edge. IfNone edge.fault
    (g.G.Graph.is_node c.args.graph.now edge.node.items))) c.in-Some.ensures.steps.0 c.loop-edge.invariant.all_known in
    let judged = subst (λ node. IsJudged (HasEdgeFault (g.G.Graph.wrong c.args.graph.now) (g.G.Graph.flawed c.args.graph.now) node) c.in-Some.edge)
    (sym c.loop-edge.invariant.node)
    (All-head (IsJudged (HasEdgeFault (g.G.Graph.wrong c.args.graph.now) (g.G.Graph.flawed c.args.graph.now) (node_at c.args.trail.now.nodes c.args.at)))
    c.in-Some.edge (into_iter_items c.next.new.self)
    (subst (All (IsJudged (HasEdgeFault (g.G.Graph.wrong c.args.graph.now) (g.G.Graph.flawed c.args.graph.now)
    (node_at c.args.trail.now.nodes c.args.at)))) c.in-Some.ensures.steps.0 c.loop-edge.invariant.judged)) in
    let goes = reread (g.G.Graph.wrong c.args.graph.now) (g.G.Graph.flawed c.args.graph.now) _ _ _ _ _ _ _ _ c.in-Node.is
    c.in_ok-fault.ensures.passed in
    let on = passed (g.G.Graph.is_node c.args.graph.now) (g.G.Graph.leads c.args.graph.now) (g.G.Graph.wrong c.args.graph.now)
    (g.G.Graph.flawed c.args.graph.now)
    (node_at c.args.trail.now.nodes 0) c.loop-edge.trail.nodes c.pass.new.trail.nodes c.loop-edge.trail.entered.items c.pass.new.trail.entered.items
    c.args.at (length c.loop-edge.yielded) (edge_view c.in-Some.edge) c.in-Node.number c.loop-edge.invariant.inside
    (leaving edge_view (g.G.Graph.leads c.args.graph.now) c.loop-edge.yielded (into_iter_items c.loop-edge.edge-iterator)
    (into_iter_items c.next.new.self) c.in-Some.edge
    (node_at c.args.trail.now.nodes c.args.at)
    (node_at c.loop-edge.trail.nodes c.args.at) c.in-Some.ensures.steps.0 c.loop-edge.invariant.rest c.loop-edge.invariant.node)
    goes c.loop-edge.invariant.under_way.all_known
    (leads_to_node (g.G.Graph.is_node c.args.graph.now c.in-Some.edge.node.items) (g.G.Graph.wrong c.args.graph.now) (g.G.Graph.flawed c.args.graph.now)
    c.loop-edge.trail.nodes c.pass.new.trail.nodes c.loop-edge.trail.entered.items c.pass.new.trail.entered.items c.args.at c.in-Node.number
    (edge_view c.in-Some.edge)
    c.in-Some.edge.fault goes judged (All-head (λ edge. IfNone edge.fault (g.G.Graph.is_node c.args.graph.now edge.node.items)) c.in-Some.edge
    (into_iter_items c.next.new.self) all))
    c.loop-edge.invariant.under_way.explored in record {
      under_way = subst (λ n. IsUnderWay (g.G.Graph.is_node c.args.graph.now) (g.G.Graph.leads c.args.graph.now) (g.G.Graph.wrong c.args.graph.now)
          (g.G.Graph.flawed c.args.graph.now)
          (node_at c.args.trail.now.nodes 0) c.args.most c.pass.new.trail.nodes c.pass.new.trail.entered.items c.pass.new.trail.rows c.args.at n)
          (sym (length-append c.loop-edge.yielded (c.in-Some.edge ∷ [])))
          (subst (λ rows. IsUnderWay (g.G.Graph.is_node c.args.graph.now) (g.G.Graph.leads c.args.graph.now) (g.G.Graph.wrong c.args.graph.now)
          (g.G.Graph.flawed c.args.graph.now)
          (node_at c.args.trail.now.nodes 0) c.args.most c.pass.new.trail.nodes c.pass.new.trail.entered.items rows c.args.at (length c.loop-edge.yielded + 1))
          (sym c.in_ok-fault.ensures.rows)
          (went_on (g.G.Graph.is_node c.args.graph.now) (g.G.Graph.leads c.args.graph.now) (g.G.Graph.wrong c.args.graph.now)
          (g.G.Graph.flawed c.args.graph.now) (node_at c.args.trail.now.nodes 0)
          c.loop-edge.trail.nodes c.pass.new.trail.nodes c.loop-edge.trail.entered.items c.pass.new.trail.entered.items c.args.at (length c.loop-edge.yielded)
          c.args.most c.in-Node.number (edge_view c.in-Some.edge) c.loop-edge.trail.rows c.loop-edge.invariant.inside
          (omega arith) c.loop-edge.invariant.under_way on));
      rest = moved edge_view c.loop-edge.yielded (into_iter_items c.loop-edge.edge-iterator) (into_iter_items c.next.new.self) c.in-Some.edge
          c.in-Some.ensures.steps.0 ∙ c.loop-edge.invariant.rest;
      judged = All-tail (IsJudged (HasEdgeFault (g.G.Graph.wrong c.args.graph.now) (g.G.Graph.flawed c.args.graph.now)
          (node_at c.args.trail.now.nodes c.args.at))) c.in-Some.edge (into_iter_items c.next.new.self)
          (subst (All (IsJudged (HasEdgeFault (g.G.Graph.wrong c.args.graph.now) (g.G.Graph.flawed c.args.graph.now)
          (node_at c.args.trail.now.nodes c.args.at)))) c.in-Some.ensures.steps.0 c.loop-edge.invariant.judged);
      all_known = All-tail (λ edge. IfNone edge.fault (g.G.Graph.is_node c.args.graph.now edge.node.items)) c.in-Some.edge
          (into_iter_items c.next.new.self) all;
      row = subst (λ row. AreTargets c.pass.new.trail.nodes row (map edge_view (c.loop-edge.yielded ++ c.in-Some.edge ∷ []))) (sym c.in_ok-push.ensures.items)
          (subst (AreTargets c.pass.new.trail.nodes (c.loop-edge.row.items ++ c.in-Node.number ∷ [])) (sym (map-append edge_view c.loop-edge.yielded
          (c.in-Some.edge ∷ [])))
          (row_on (g.G.Graph.is_node c.args.graph.now) (g.G.Graph.leads c.args.graph.now) (g.G.Graph.wrong c.args.graph.now)
          (g.G.Graph.flawed c.args.graph.now) (node_at c.args.trail.now.nodes 0)
          c.loop-edge.trail.nodes c.pass.new.trail.nodes c.loop-edge.trail.entered.items c.pass.new.trail.entered.items c.args.at (length c.loop-edge.yielded)
          c.loop-edge.row.items (map edge_view c.loop-edge.yielded) c.in-Node.number (edge_view c.in-Some.edge) c.loop-edge.invariant.row on));
      inside = omega (arith, on.longer, c.loop-edge.invariant.inside);
      node = on.node c.args.at c.loop-edge.invariant.inside ∙ c.loop-edge.invariant.node;
      same = on.same (c.args.at + 1) (omega (arith, c.loop-edge.invariant.inside)) ∙ c.loop-edge.invariant.same;
    }

pub loop-edge-init : goal.loop-edge-init
loop-edge-init g c = record {
  under_way = c.requires.under_way;
  rest = ap (map edge_view) c.into_iter-edge-iterator.ensures.into_iter_gives.0 ∙ c.requires.edges;
  judged = subst (All (IsJudged (HasEdgeFault (g.G.Graph.wrong c.args.graph.now) (g.G.Graph.flawed c.args.graph.now)
      (node_at c.args.trail.now.nodes c.args.at))))
      (sym c.into_iter-edge-iterator.ensures.into_iter_gives.0) c.requires.judged;
  all_known = subst (All (λ edge. IfNone edge.fault (g.G.Graph.is_node c.args.graph.now edge.node.items)))
      (sym c.into_iter-edge-iterator.ensures.into_iter_gives.0) c.requires.nodes;
  row = subst (λ row. AreTargets c.args.trail.now.nodes row []) (sym c.new-row.ensures.items) tt;
  inside = c.requires.inside;
  node = refl;
  same = refl;
}

pub returns : goal.returns
returns g c =
    let none : into_iter_items c.loop-edge.edge-iterator ≡ [] = nil_from_length (into_iter_items c.loop-edge.edge-iterator) (omega
    (arith, c.loop-edge.edge-iterator.rest.ok, c.in-None.ensures.steps.0)) in
    let whole : map edge_view c.loop-edge.yielded ≡ g.G.Graph.leads c.args.graph.now (node_at c.loop-edge.trail.nodes c.args.at) =
    sym (append-nil (map edge_view c.loop-edge.yielded)) ∙ ap (λ l. map edge_view c.loop-edge.yielded ++ map edge_view l) (sym none)
    ∙ c.loop-edge.invariant.rest
    ∙ ap (g.G.Graph.leads c.args.graph.now) (sym c.loop-edge.invariant.node) in (
      subst (λ rows. IsUnderWay (g.G.Graph.is_node c.args.graph.now) (g.G.Graph.leads c.args.graph.now) (g.G.Graph.wrong c.args.graph.now)
          (g.G.Graph.flawed c.args.graph.now)
          (node_at c.args.trail.now.nodes 0) c.args.most c.loop-edge.trail.nodes c.loop-edge.trail.entered.items rows (c.args.at + 1) 0)
          (sym (c.in_ok-push-2.ensures.added ∙ ap (λ row. c.loop-edge.trail.rows ++ row ∷ []) c.deref.ensures.value))
          (row_done (g.G.Graph.is_node c.args.graph.now) (g.G.Graph.leads c.args.graph.now) (g.G.Graph.wrong c.args.graph.now)
          (g.G.Graph.flawed c.args.graph.now)
          (node_at c.args.trail.now.nodes 0)
          c.args.most c.loop-edge.trail.nodes c.loop-edge.trail.entered.items c.loop-edge.trail.rows c.args.at (length c.loop-edge.yielded)
          c.loop-edge.row.items c.loop-edge.invariant.inside (sym (length-map c.loop-edge.yielded edge_view) ∙ ap length whole)
          (subst (AreTargets c.loop-edge.trail.nodes c.loop-edge.row.items) whole c.loop-edge.invariant.row) c.loop-edge.invariant.under_way),
      c.loop-edge.invariant.same,
    )
