-- The law is a theorem.
use Rattle.theory_refinement.proofs.Theorems.{run_heeds}
use Rattle.cf_core.proofs.laws.t4_3.Goals as goal

pub returns : goal.returns
returns c = run_heeds
