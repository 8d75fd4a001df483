-- The law is a theorem.
use Rattle.theory_confluence.proofs.Laws.{move_costs, run_bounded}
use Rattle.cf_core.proofs.laws.t5_1.Goals as goal

pub returns-clause-costs : goal.returns-clause-costs
returns-clause-costs c = move_costs

pub returns-clause-bounded : goal.returns-clause-bounded
returns-clause-bounded c = run_bounded
