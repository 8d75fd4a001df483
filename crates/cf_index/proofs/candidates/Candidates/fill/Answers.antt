-- The rule that keeps every guess leaves all candidates.
use Rattle.std.proofs.Common.{◌∙◌}
use Rattle.cf_index.proofs.Firsts.{any_guided}
use Rattle.cf_index.proofs.candidates.Candidates.fill.Goals as goal

pub returns : goal.returns
returns c = c.fill_by.ensures ∙ any_guided c.args.core.now.plan c.args.core.now.state
