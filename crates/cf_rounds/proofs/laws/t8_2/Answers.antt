use Rattle.cf_rounds.proofs.Orders.{orders_run, orders_same}
use Rattle.cf_rounds.proofs.laws.t8_2.Goals as goal

pub returns-clause-allowed : goal.returns-clause-allowed
returns-clause-allowed c = orders_run

pub returns-clause-same : goal.returns-clause-same
returns-clause-same c = orders_same
