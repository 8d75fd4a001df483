use Rattle.cf_index.proofs.Firsts.{candidates_parts, guided_parts}
use Rattle.cf_index.proofs.OneIssue.{one-issue}
use Rattle.cf_sched.proofs.ByRule.{any-offered, some-offered}
use Rattle.cf_sched.proofs.laws.guess_rules.Goals as goal

pub returns : goal.returns
returns c = record {
  parts = candidates_parts;
  left = guided_parts;
  one = one-issue;
  any = any-offered;
  some = some-offered;
}
