use Rattle.run_ledger.proofs.StageTimes.{whole-time}
use Rattle.run_ledger.proofs.laws.stages_add_up.Goals as goal

pub returns : goal.returns
returns c = whole-time
