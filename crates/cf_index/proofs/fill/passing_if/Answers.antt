-- The words are those of what is allowed.
use Rattle.std.proofs.Common.{◌≤◌, ◌∙◌, ap}
use Rattle.cf_index.specs.Listed.{passing_moves}
use Rattle.cf_index.proofs.AllowedWords.{passing-moves}
use Rattle.cf_index.proofs.fill.passing_if.Goals as goal

pub returns : goal.returns
returns c =
    let plan = c.args.core.now.plan in
    let few : plan.stages ≤ 32 = c.know_stages.ensures.few in
    ap passing_moves c.passing_words.ensures ∙ passing-moves plan c.args.core.now.state few
