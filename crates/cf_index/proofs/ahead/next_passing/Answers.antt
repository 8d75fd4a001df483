use Rattle.std.proofs.Common.{◌≤◌, ◌∙◌, ap}
use Rattle.std.specs.Prelude.{find}
use Rattle.cf_index.specs.Ranks.{is_past}
use Rattle.cf_index.proofs.AllowedWords.{climb-on}
use Rattle.cf_index.proofs.ahead.next_passing.Goals as goal

pub returns : goal.returns
returns c =
    let plan = c.args.core.now.plan in
    let few : plan.stages ≤ 32 = c.know_stages.ensures.few in
    c.next_climb.ensures ∙ ap (find (is_past c.args.last)) (climb-on plan c.args.core.now.state few)
