-- The law is a theorem.
use Rattle.cf_core.proofs.RunsBack.{run-back}
use Rattle.cf_core.proofs.laws.runs_are_taken_back.Goals as goal

pub returns : goal.returns
returns c = run-back
