-- The law is a theorem.
use Rattle.theory_refinement.proofs.Laws.{serves_and_passes}
use Rattle.cf_core.proofs.laws.l3.Goals as goal

pub returns : goal.returns
returns c = serves_and_passes
