use Rattle.std.proofs.Common.{◌∙◌, ◌≤◌, sym}
use Rattle.cf_index.proofs.Rows.{top_free}
use Rattle.cf_index.proofs.pipe_ends.leaves_among.Goals as goal

pub returns-else-has_top : goal.returns-else-has_top
returns-else-has_top c =
    let plan = c.args.core.now.plan in
    let some : 1 ≤ plan.stages = c.know_stages.ensures.some in
    let off = top_free plan c.args.core.now.state c.args.masks.now c.requires.on c.requires.masks (c.know_stages.ensures.cells) some
    (sym c.has_top.ensures ∙ c.if-has_top.false) in
    c.if-has_top.false ∙ sym off.0
