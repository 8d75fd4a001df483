use Rattle.std.proofs.Common.{sym, ◌∙◌, subst, arith, refl}
use Rattle.order_search.specs.Numbers.{node_at}
use Rattle.order_search.specs.SearchAnswers.{Progress, Visits}
use Rattle.order_search.proofs.Searches.{started, went_on, answered_early, all_reached, rows_within}
use Rattle.order_search.proofs.breadth_first.search.Goals as goal

pub loop-at-init : goal.loop-at-init
loop-at-init g c = record {
  graph = refl;
  progress = started (g.G.Graph.is_node c.args.graph.now) (g.G.Graph.leads c.args.graph.now) (g.G.Graph.wrong c.args.graph.now)
      (g.G.Graph.flawed c.args.graph.now) c.args.most c.args.first.items
      c.in_ok-trail.trail.nodes c.in_ok-trail.trail.entered.items c.in_ok-trail.trail.rows c.requires.some c.requires.node c.in_ok-trail.ensures.nodes
      c.in_ok-trail.ensures.entered c.in_ok-trail.ensures.rows;
}

pub visit-requires-clause-progress : goal.visit-requires-clause-progress
visit-requires-clause-progress g c =
    subst (λ graph. Progress (g.G.Graph.is_node graph) (g.G.Graph.leads graph) (g.G.Graph.wrong graph) (g.G.Graph.flawed graph)
    (node_at c.loop-at.trail.nodes 0) c.args.most
    c.loop-at.trail.nodes c.loop-at.trail.entered.items c.loop-at.trail.rows c.loop-at.at c.loop-at.totals.edges c.loop-at.totals.ends)
    (sym c.loop-at.invariant.graph)
    (subst (λ first. Progress (g.G.Graph.is_node c.args.graph.now) (g.G.Graph.leads c.args.graph.now) (g.G.Graph.wrong c.args.graph.now)
    (g.G.Graph.flawed c.args.graph.now) first c.args.most
    c.loop-at.trail.nodes c.loop-at.trail.entered.items c.loop-at.trail.rows c.loop-at.at c.loop-at.totals.edges c.loop-at.totals.ends)
    (sym c.loop-at.invariant.progress.under_way.explored.begins) c.loop-at.invariant.progress)

pub loop-at-preserved : goal.loop-at-preserved
loop-at-preserved g c = record {
  graph = c.in_ok-answer.ensures.graph ∙ c.loop-at.invariant.graph;
  progress = went_on (g.G.Graph.is_node c.args.graph.now) (g.G.Graph.leads c.args.graph.now) (g.G.Graph.wrong c.args.graph.now)
      (g.G.Graph.flawed c.args.graph.now) c.args.most c.args.first.items
      c.loop-at.trail.nodes c.visit.new.trail.nodes c.visit.new.trail.entered.items c.visit.new.trail.rows c.loop-at.at c.visit.new.totals.edges
      c.visit.new.totals.ends c.in_ok-answer.field-0 c.in_default.not-Some
      (subst (λ graph. Visits (g.G.Graph.is_node graph) (g.G.Graph.leads graph) (g.G.Graph.wrong graph)
      (g.G.Graph.flawed graph) c.args.most c.loop-at.trail.nodes c.visit.new.trail.nodes
      c.visit.new.trail.entered.items c.visit.new.trail.rows c.loop-at.at c.visit.new.totals.edges c.visit.new.totals.ends c.in_ok-answer.field-0)
      c.loop-at.invariant.graph c.in_ok-answer.ensures.visits)
      c.loop-at.invariant.progress.under_way.explored.begins;
}

pub returns-in-Some-clause-answer : goal.returns-in-Some-clause-answer
returns-in-Some-clause-answer g c =
    answered_early (g.G.Graph.is_node c.args.graph.now) (g.G.Graph.leads c.args.graph.now) (g.G.Graph.wrong c.args.graph.now)
    (g.G.Graph.flawed c.args.graph.now) c.args.most c.args.first.items
    c.loop-at.trail.nodes c.visit.new.trail.nodes c.visit.new.trail.entered.items c.visit.new.trail.rows c.loop-at.at c.visit.new.totals.edges
    c.visit.new.totals.ends c.in_ok-answer.field-0 c.in-Some.answer c.in-Some.is
    (subst (λ graph. Visits (g.G.Graph.is_node graph) (g.G.Graph.leads graph) (g.G.Graph.wrong graph)
    (g.G.Graph.flawed graph) c.args.most c.loop-at.trail.nodes c.visit.new.trail.nodes
    c.visit.new.trail.entered.items c.visit.new.trail.rows c.loop-at.at c.visit.new.totals.edges c.visit.new.totals.ends c.in_ok-answer.field-0)
    c.loop-at.invariant.graph c.in_ok-answer.ensures.visits)
    c.loop-at.invariant.progress.under_way.explored.begins

pub count_orders-requires-clause-within : goal.count_orders-requires-clause-within
count_orders-requires-clause-within g c =
    rows_within (g.G.Graph.is_node c.args.graph.now) (g.G.Graph.leads c.args.graph.now) (g.G.Graph.wrong c.args.graph.now)
    (g.G.Graph.flawed c.args.graph.now) c.args.most c.args.first.items
    c.loop-at.trail.nodes c.loop-at.trail.entered.items c.loop-at.trail.rows c.loop-at.at c.loop-at.totals.edges c.loop-at.totals.ends (omega arith)
    c.loop-at.invariant.progress

pub returns-clause-answer : goal.returns-clause-answer
returns-clause-answer g c =
    all_reached (g.G.Graph.is_node c.args.graph.now) (g.G.Graph.leads c.args.graph.now) (g.G.Graph.wrong c.args.graph.now)
    (g.G.Graph.flawed c.args.graph.now) c.args.most c.args.first.items
    c.loop-at.trail.nodes c.loop-at.trail.entered.items c.loop-at.trail.rows c.loop-at.at c.loop-at.totals.edges c.loop-at.totals.ends
    c.in_ok-orders.orders (omega arith)
    c.loop-at.invariant.progress c.in_ok-orders.ensures
