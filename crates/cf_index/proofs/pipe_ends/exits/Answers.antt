use Rattle.std.proofs.Common.{◌∙◌}
use Rattle.cf_index.proofs.Rows.{exit_allowed}
use Rattle.cf_index.proofs.pipe_ends.exits.Goals as goal

pub returns : goal.returns
returns c =
    c.has_bit.ensures ∙ c.resting.ensures 0 ∙ exit_allowed c.args.core.now.plan c.args.core.now.state c.args.masks.now c.requires.on c.requires.masks
    (c.know_stages.ensures.cells)
