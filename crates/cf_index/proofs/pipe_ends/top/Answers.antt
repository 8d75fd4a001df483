use Rattle.std.proofs.Common.{◌∙◌, ◌≤◌, refl, sym}
use Rattle.cf_index.proofs.Rows.{top_free}
use Rattle.cf_index.proofs.pipe_ends.top.Goals as goal

pub returns-then-not-has_top : goal.returns-then-not-has_top
returns-then-not-has_top c =
    let plan = c.args.core.now.plan in
    let some : 1 ≤ plan.stages = c.know_stages.ensures.some in
    let off = top_free plan c.args.core.now.state c.args.masks.now c.requires.on c.requires.masks (c.know_stages.ensures.cells) some
    (sym c.has_top.ensures ∙ c.if-not-has_top.true) in
    sym (rw (off.0, off.1) refl)
