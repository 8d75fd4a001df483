use Rattle.std.proofs.Common.{◌∙◌, sym}
use Rattle.cf_bind.specs.declared.moves.Move.TheVariants.{Fall}
use Rattle.cf_index.specs.Allowed.{meet_on, passing_of}
use Rattle.cf_index.proofs.Ranks.{word_gone, word_here}
use Rattle.cf_index.proofs.ahead.next_fall.Goals as goal

pub returns-in-Some : goal.returns-in-Some
returns-in-Some c =
    let plan = c.args.core.now.plan in
    let s = c.args.core.now.state in
    word_here c.args.last Fall (passing_of plan s).fall c.falls_after.result c.in-Some.k (meet_on plan s) c.falls_after.ensures
    (sym c.in-Some.is ∙ c.lowest.ensures.number)

pub returns-in-None : goal.returns-in-None
returns-in-None c =
    let plan = c.args.core.now.plan in
    let s = c.args.core.now.state in
    c.next_meet.ensures ∙ word_gone c.args.last Fall (passing_of plan s).fall c.falls_after.result (meet_on plan s) c.falls_after.ensures
    (sym c.in-None.is ∙ c.lowest.ensures.number)
