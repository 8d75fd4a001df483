use Rattle.std.proofs.Common.{◌∙◌, ℕ, ap}
use Rattle.cf_bind.specs.declared.moves.Move.TheVariants.{Climb}
use Rattle.cf_index.specs.Allowed.{passing_of}
use Rattle.cf_index.specs.Words.{climb_bit}
use Rattle.cf_index.proofs.Rows.{climb-stages, word-is}
use Rattle.cf_index.proofs.stages.climbs_among.Goals as goal

pub returns : goal.returns
unfolding passing_of
returns c =
    let plan = c.args.core.now.plan in
    let s = c.args.core.now.state in
    let m = c.args.masks.now in
    let same = c.know_stages.ensures.cells in
    word-is plan s Climb c.where_on.result (climb-stages plan s m c.climbing.result c.where_on.result c.requires.masks same (λ k. c.climbing.ensures k
    ∙ ap (λ (n : ℕ). climb_bit m n k) c.requires.stages) c.where_on.ensures)
