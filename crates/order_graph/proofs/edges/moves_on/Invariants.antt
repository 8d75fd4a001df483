-- Those of the moves so far that lead on.
use Rattle.order_graph.proofs.Unready.{AreKept}
use Rattle.order_graph.proofs.edges.moves_on.Given as goal

abbrev pub invariant-loop-m : goal.invariant-loop-m
invariant-loop-m l = record { kept : AreKept l.trial l.node l.m-items l.m-index l.moves.items }
