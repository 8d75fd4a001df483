use Rattle.std.proofs.Common.{subst}
use Rattle.std.specs.Prelude.{IfOk}
use Rattle.order_search.specs.SearchAnswers.{PassesEdges}
use Rattle.order_search.specs.Views.{edge_view}
use Rattle.order_search.proofs.Turns.{visits}
use Rattle.order_search.proofs.breadth_first.visit.Goals as goal

pub returns-clause-visits : goal.returns-clause-visits
returns-clause-visits g c =
    visits (g.G.Graph.is_node c.args.graph.now) (g.G.Graph.leads c.args.graph.now) (g.G.Graph.wrong c.args.graph.now)
    (g.G.Graph.flawed c.args.graph.now) c.args.most
    c.args.trail.now.nodes c.go_through.new.trail.nodes c.args.trail.now.entered.items c.go_through.new.trail.entered.items
    c.args.trail.now.rows c.go_through.new.trail.rows c.args.at edge_view c.in_ok-edges.edges.items c.get.result.now
    c.go_through.result c.args.totals.now.edges c.args.totals.now.ends c.with-sums.result.edges c.with-sums.result.ends c.requires.inside
    c.requires.progress c.get.ensures c.in_ok-edges.ensures.edges c.in_ok-edges.ensures.few c.with-sums.ensures.edges c.with-sums.ensures.ends
    (subst (λ graph. IfOk c.go_through.result (PassesEdges (g.G.Graph.is_node graph) (g.G.Graph.leads graph) (g.G.Graph.wrong graph)
    (g.G.Graph.flawed graph) c.args.most
    c.args.trail.now.nodes c.go_through.new.trail.nodes c.go_through.new.trail.entered.items c.go_through.new.trail.rows c.args.at))
    c.in_ok-edges.ensures.same c.go_through.ensures)
