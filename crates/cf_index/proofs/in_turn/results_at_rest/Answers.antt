use Rattle.std.proofs.Common.{◌∙◌}
use Rattle.cf_index.proofs.Rows.{resting-has}
use Rattle.cf_index.proofs.in_turn.results_at_rest.Goals as goal

pub returns : goal.returns
returns c = λ k.
    c.resting.ensures k
    ∙ resting-has c.args.core.now.plan c.args.core.now.state c.open_masks-masks.result k c.open_masks-masks.ensures c.know_stages.ensures.cells
