-- The move is Serve.
use Rattle.order_judging.proofs.serving.serves_apart.Goals as goal

pub returns-clause-apart : goal.returns-clause-apart
returns-clause-apart c = rw c.in-Serve.is c.is_served_apart.ensures.apart
