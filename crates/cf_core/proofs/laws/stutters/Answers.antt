-- The law is a theorem.
use Rattle.theory_confluence.proofs.Laws.{move_stutters, rank_falls}
use Rattle.cf_core.proofs.laws.stutters.Goals as goal

pub returns-clause-views : goal.returns-clause-views
returns-clause-views c = move_stutters

pub returns-clause-rank : goal.returns-clause-rank
returns-clause-rank c = rank_falls
