-- The law is a theorem.
use Rattle.theory_refinement.proofs.Laws.{computes_as_finished}
use Rattle.cf_core.proofs.laws.l1.Goals as goal

pub returns : goal.returns
returns c = computes_as_finished
