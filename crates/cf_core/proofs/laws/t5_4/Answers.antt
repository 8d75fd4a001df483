-- The law is a theorem.
use Rattle.theory_confluence.proofs.Laws.{drains_agree}
use Rattle.cf_core.proofs.laws.t5_4.Goals as goal

pub returns : goal.returns
returns c = drains_agree
