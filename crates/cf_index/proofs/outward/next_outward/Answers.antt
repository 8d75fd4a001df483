use Rattle.std.specs.Prelude.{filter}
use Rattle.cf_semantics.specs.moves.Candidates.{slides_from}
use Rattle.cf_index.specs.Allowed.{all_leaving, is_allowed}
use Rattle.cf_index.specs.Ranks.{is_past}
use Rattle.cf_index.proofs.Ranks.{found_here, found_there}
use Rattle.cf_index.proofs.outward.next_outward.Goals as goal

pub returns-in-Some : goal.returns-in-Some
returns-in-Some c = λ other.
    let plan = c.args.core.now.plan in
    let q = is_allowed plan c.args.core.now.state in
    found_here (is_past c.args.last) (filter q (slides_from 0 plan.sidings)) (filter q (all_leaving plan)) c.next_slide.result c.in-Some.next
    (c.next_slide.ensures.first other) c.in-Some.is

pub returns-in-None : goal.returns-in-None
returns-in-None c = λ other.
    let plan = c.args.core.now.plan in
    let q = is_allowed plan c.args.core.now.state in
    found_there (is_past c.args.last) (filter q (slides_from 0 plan.sidings)) (filter q (all_leaving plan)) c.next_slide.result c.next_leaving.result
    (c.next_slide.ensures.first other) c.in-None.is c.next_leaving.ensures
