use Rattle.cf_index.proofs.PassedAll.{no_last}
use Rattle.cf_index.proofs.candidates.Candidates.first_after.Goals as goal

pub returns-in-None-clause-place : goal.returns-in-None-clause-place
returns-in-None-clause-place c = rw c.in-None.is (no_last c.args.self.now)
