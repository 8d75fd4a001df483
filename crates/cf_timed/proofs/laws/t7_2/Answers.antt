use Rattle.cf_timed.proofs.Exchanging.{can-exchange}
use Rattle.cf_timed.proofs.laws.t7_2.Goals as goal

pub returns : goal.returns
returns c = can-exchange
