use Rattle.std.proofs.Common.{◌≡◌, length}
use Rattle.cf_bind.specs.declared.moves.Move.TheVariants.{Fall}
use Rattle.cf_index.specs.Allowed.{passing_of}
use Rattle.cf_index.proofs.Rows.{fall-stages, word-is}
use Rattle.cf_index.proofs.stages.falls.Goals as goal

pub returns : goal.returns
unfolding passing_of
returns c =
    let plan = c.args.core.now.plan in
    let s = c.args.core.now.state in
    let m = c.args.masks.now in
    let same : length s.cells ≡ plan.stages = c.know_stages.ensures.cells in
    word-is plan s Fall c.where_on.result (fall-stages plan s m c.falling.result c.where_on.result c.requires.masks same c.falling.ensures c.where_on.ensures)
