use Rattle.std.proofs.Common.{◌≡◌, length}
use Rattle.cf_bind.specs.declared.moves.Move.TheVariants.{Send}
use Rattle.cf_index.specs.Allowed.{passing_of}
use Rattle.cf_index.proofs.Rows.{send-stages, word-is}
use Rattle.cf_index.proofs.stages.sends.Goals as goal

pub returns : goal.returns
unfolding passing_of
returns c =
    let plan = c.args.core.now.plan in
    let s = c.args.core.now.state in
    let m = c.args.masks.now in
    let same : length s.cells ≡ plan.stages = c.know_stages.ensures.cells in
    word-is plan s Send c.where_on.result (send-stages plan s m c.sending.result c.where_on.result c.requires.masks same c.sending.ensures c.where_on.ensures)
