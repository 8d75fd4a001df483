-- The law is a theorem.
use Rattle.theory_refinement.proofs.Laws.{accesses_as_launched}
use Rattle.cf_core.proofs.laws.l2.Goals as goal

pub returns : goal.returns
returns c = accesses_as_launched
