-- The law is a theorem.
use Rattle.theory_refinement.proofs.Laws.{reads_as_issued}
use Rattle.cf_core.proofs.laws.l4.Goals as goal

pub returns : goal.returns
returns c = reads_as_issued
