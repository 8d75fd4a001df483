use Rattle.cf_run.proofs.ByRule.{ruled-allowed}
use Rattle.cf_run.proofs.Bounds.{reached-offered}
use Rattle.cf_run.proofs.ByPolicy.{policy-bounded}
use Rattle.cf_run.specs.Policies.{first_pick, later_picks}
use Rattle.cf_run.proofs.laws.t5_6.Goals as goal

pub returns : goal.returns
returns c = record {
  bounded = λ rule. policy-bounded rule first_pick later_picks;
  offered = λ rule limit show start now picks at accepted wide opens reached are goes. reached-offered rule first_pick later_picks limit show start now picks
      at accepted
      wide opens reached are goes.unended at.rule at.count;
  allowed = λ plan at s place mv there. ruled-allowed at.rule plan at.count s place mv there;
}
