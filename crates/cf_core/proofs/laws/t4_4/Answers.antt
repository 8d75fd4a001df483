-- The law is a theorem.
use Rattle.theory_refinement.proofs.Theorems.{lines_prefix}
use Rattle.cf_core.proofs.laws.t4_4.Goals as goal

pub returns : goal.returns
returns c = lines_prefix
