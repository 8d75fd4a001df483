-- The law is a theorem.
use Rattle.theory_refinement.proofs.Theorems.{run_refines}
use Rattle.cf_core.proofs.laws.t4_2.Goals as goal

pub returns : goal.returns
returns c = run_refines
