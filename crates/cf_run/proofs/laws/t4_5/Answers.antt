use Rattle.cf_run.proofs.Ending.{script-ends, policy-ends}
use Rattle.cf_run.specs.Policies.{first_pick, later_picks}
use Rattle.cf_run.proofs.laws.t4_5.Goals as goal

pub returns : goal.returns
returns c = record {
  scripts = script-ends;
  policies = λ rule. policy-ends rule first_pick later_picks;
}
