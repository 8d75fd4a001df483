-- The law is a theorem.
use Rattle.theory_confluence.proofs.Laws.{drain_bounded, drain_ends}
use Rattle.cf_core.proofs.laws.t5_3.Goals as goal

pub returns-clause-bounded : goal.returns-clause-bounded
returns-clause-bounded c = drain_bounded

pub returns-clause-ends : goal.returns-clause-ends
returns-clause-ends c = drain_ends
