-- None of the moves so far leads on.
use Rattle.order_graph.proofs.Firsts.{IsPassedOver}
use Rattle.order_graph.proofs.edges.first_move.Given as goal

abbrev pub invariant-loop-m : goal.invariant-loop-m
invariant-loop-m l = record { over : IsPassedOver l.trial l.node l.m-items l.m-index }
