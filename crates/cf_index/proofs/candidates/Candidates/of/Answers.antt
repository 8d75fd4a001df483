use Rattle.std.proofs.Common.{◌∙◌, ap}
use Rattle.cf_index.specs.Allowed.{withheld}
use Rattle.cf_index.proofs.Firsts.{guided_chosen}
use Rattle.cf_index.proofs.candidates.Candidates.of.Goals as goal

pub returns : goal.returns
returns c =
    c.held_if.ensures ∙ ap (withheld c.args.held) (guided_chosen c.args.rule c.args.core.now.plan c.args.core.now.state _ _ _ _
    c.entering-entering.ensures c.passing-passing.ensures c.slides-slides.ensures c.leaving-leaving.ensures)
