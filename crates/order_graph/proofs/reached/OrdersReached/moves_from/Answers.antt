-- The edges of a state's key are its moves.
use Rattle.std.proofs.Common.{arith}
use Rattle.std.proofs.lemmas.List.{length-map}
use Rattle.order_graph.specs.KeyGraph.{state_at}
use Rattle.order_graph.proofs.Answered.{numbered_moves}
use Rattle.order_graph.proofs.reached.OrdersReached.moves_from.Goals as goal

pub returns-clause-moves : goal.returns-clause-moves
returns-clause-moves c = numbered_moves c.args.self.now c.args.number c.in_ok-moves.moves.items c.note_trial.ensures c.requires.searched
    (omega (arith, c.requires.inside, length-map c.args.self.now.reached.nodes (state_at c.args.self.now.graph.trial))) c.in_ok-moves.ensures.edges
