use Rattle.std.proofs.Common.{◌∙◌, sym}
use Rattle.cf_bind.specs.declared.moves.Move.TheVariants.{Climb}
use Rattle.cf_index.specs.Allowed.{fall_on, passing_of}
use Rattle.cf_index.proofs.Ranks.{word_gone, word_here}
use Rattle.cf_index.proofs.ahead.next_climb.Goals as goal

pub returns-in-Some : goal.returns-in-Some
returns-in-Some c =
    let plan = c.args.core.now.plan in
    let s = c.args.core.now.state in
    word_here c.args.last Climb (passing_of plan s).climb c.climbs_after.result c.in-Some.k (fall_on plan s) c.climbs_after.ensures
    (sym c.in-Some.is ∙ c.lowest.ensures.number)

pub returns-in-None : goal.returns-in-None
returns-in-None c =
    let plan = c.args.core.now.plan in
    let s = c.args.core.now.state in
    c.next_fall.ensures ∙ word_gone c.args.last Climb (passing_of plan s).climb c.climbs_after.result (fall_on plan s) c.climbs_after.ensures
    (sym c.in-None.is ∙ c.lowest.ensures.number)
