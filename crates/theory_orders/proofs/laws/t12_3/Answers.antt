-- The law is a theorem.
use Rattle.theory_orders.proofs.Moves.{right_move}
use Rattle.theory_orders.proofs.Moments.{right_moment}
use Rattle.theory_orders.proofs.laws.t12_3.Goals as goal

pub returns-clause-moves : goal.returns-clause-moves
returns-clause-moves c = right_move

pub returns-clause-moments : goal.returns-clause-moments
returns-clause-moments c = right_moment
