-- The law is a theorem.
use Rattle.theory_confluence.proofs.Laws.{stuck_rests}
use Rattle.cf_core.proofs.laws.t5_2.Goals as goal

pub returns : goal.returns
returns c = stuck_rests
