use Rattle.std.proofs.Common.{◌≤◌}
use Rattle.cf_index.proofs.Filled.{leaving_chosen}
use Rattle.cf_index.proofs.Rows.{recover-stages}
use Rattle.cf_index.proofs.fill.open_leaving.Goals as goal

pub returns : goal.returns
returns c =
    let plan = c.args.core.now.plan in
    let s = c.args.core.now.state in
    let few : plan.stages ≤ 32 = c.know_stages.ensures.few in
    leaving_chosen plan s _ few c.accesses.ensures (recover-stages plan s c.args.masks.now c.requires.masks) c.leaves_among.ensures c.exits.ensures
    c.serves_among.ensures
