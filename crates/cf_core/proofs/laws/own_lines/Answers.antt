-- The law is a theorem.
use Rattle.theory_refinement.proofs.instructions.OwnShown.{own_alone}
use Rattle.cf_core.proofs.laws.own_lines.Goals as goal

pub returns : goal.returns
returns c = own_alone
