-- An edge without a fault leads to a node, which is added unless it is already there.
use Rattle.std.proofs.Common.{sym, subst}
use Rattle.order_search.specs.declared.trail.Passed.TheVariants.{Node}
use Rattle.order_search.specs.Exploring.{GoesAlong}
use Rattle.order_search.specs.Numbers.{AddsNode, node_at}
use Rattle.order_search.specs.Views.{edge_view}
use Rattle.order_search.proofs.Passing.{passed_on, said_none}
use Rattle.order_search.proofs.trail.pass.Goals as goal

pub returns-clause-passed : goal.returns-clause-passed
returns-clause-passed g c =
    subst (λ nodes. GoesAlong (g.G.Graph.wrong c.args.graph.now) (g.G.Graph.flawed c.args.graph.now) c.args.trail.now.nodes nodes c.args.trail.now.entered.items
    c.enter.new.self.entered.items c.args.at (edge_view c.args.edge) (Node c.in_ok-place.place.number)) (sym c.enter.ensures.nodes)
    (passed_on (g.G.Graph.wrong c.args.graph.now) (g.G.Graph.flawed c.args.graph.now) c.args.trail.now.nodes c.add.new.self c.args.trail.now.entered.items
    c.enter.new.self.entered.items c.args.at (edge_view c.args.edge) c.in_ok-place.place.number c.in_ok-place.place.is_new
    (said_none (g.G.Graph.wrong c.args.graph.now) (g.G.Graph.flawed c.args.graph.now) (node_at c.args.trail.now.nodes c.args.at) (edge_view c.args.edge)
    c.args.edge.fault c.in_default.not-Some c.requires.judged)
    (subst (λ node. AddsNode c.args.trail.now.nodes c.add.new.self node c.in_ok-place.place.number c.in_ok-place.place.is_new) c.deref.ensures.value
    c.in_ok-place.ensures) c.in_ok-enter.ensures.entered)
