use Rattle.std.proofs.Common.{rules, arith}
use Rattle.order_search.proofs.Numbering.{all_numbered}
use Rattle.order_search.proofs.reached.Reached.edges_of.Goals as goal

pub returns-clause-edges : goal.returns-clause-edges
returns-clause-edges g c =
    all_numbered (g.G.Graph.leads c.args.graph.now) c.args.self.now.nodes c.args.self.now.rows c.in_ok-edges.edges.items c.row.result.now c.args.number
    c.get.result.now
    c.numbered.result (search rules) (search rules) c.in_ok-edges.ensures.edges (c.requires.rows c.args.number (omega
    (arith, c.requires.inside, c.requires.many))) c.numbered.ensures
