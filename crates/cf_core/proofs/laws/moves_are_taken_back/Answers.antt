-- The law is a theorem.
use Rattle.theory_confluence.proofs.back.TakenBack.{moment_back}
use Rattle.cf_core.proofs.laws.moves_are_taken_back.Goals as goal

pub returns : goal.returns
returns c = moment_back
