use Rattle.cf_run.proofs.ByPolicy.{policy-sequential}
use Rattle.cf_run.proofs.Headline.{runs-sequentially}
use Rattle.cf_run.specs.Policies.{first_pick, later_picks}
use Rattle.cf_run.proofs.laws.t4_2.Goals as goal

pub returns : goal.returns
returns c = record {
  scripts = runs-sequentially;
  policies = λ rule. policy-sequential rule first_pick later_picks;
}
