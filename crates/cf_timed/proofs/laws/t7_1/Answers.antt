use Rattle.cf_timed.proofs.Chaining.{longest}
use Rattle.cf_timed.proofs.Following.{run_told}
use Rattle.cf_timed.proofs.laws.t7_1.Goals as goal

pub returns : goal.returns
returns c = record { clock = run_told; longest = longest }
