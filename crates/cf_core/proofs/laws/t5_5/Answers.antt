-- The law is a theorem.
use Rattle.theory_confluence.proofs.Laws.{move_local, independent_swap, independent_before}
use Rattle.cf_core.proofs.laws.t5_5.Goals as goal

pub returns-clause-local : goal.returns-clause-local
returns-clause-local c = move_local

pub returns-clause-swap : goal.returns-clause-swap
returns-clause-swap c = independent_swap

pub returns-clause-before : goal.returns-clause-before
returns-clause-before c = independent_before
