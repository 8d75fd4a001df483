use Rattle.cf_index.proofs.Firsts.{guided_chosen}
use Rattle.cf_index.proofs.candidates.Candidates.fill_by.Goals as goal

pub returns : goal.returns
returns c = guided_chosen c.args.rule c.args.core.now.plan c.args.core.now.state _ _ _ _ c.entering-self-inside.ensures c.passing-self-inside.ensures
    c.slides-self-inside.ensures c.leaving-self-inside.ensures
