use Rattle.std.proofs.Common.{◌++◌}
use Rattle.std.specs.Prelude.{filter}
use Rattle.cf_semantics.specs.moves.Candidates.{slides_from}
use Rattle.cf_index.specs.Allowed.{all_leaving, all_passing, is_allowed}
use Rattle.cf_index.specs.Ranks.{is_past}
use Rattle.cf_index.proofs.Ranks.{found_here, found_there}
use Rattle.cf_index.proofs.soon.next.Goals as goal

pub returns-in-Some : goal.returns-in-Some
returns-in-Some c = λ other.
    let plan = c.args.core.now.plan in
    let q = is_allowed plan c.args.core.now.state in
    let rest = filter q (slides_from 0 plan.sidings) ++ filter q (all_leaving plan) in
    found_here (is_past c.args.last) (filter q (all_passing plan)) rest c.next_passing.result c.in-Some.next c.next_passing.ensures c.in-Some.is

pub returns-in-None : goal.returns-in-None
returns-in-None c = λ other.
    let plan = c.args.core.now.plan in
    let q = is_allowed plan c.args.core.now.state in
    let rest = filter q (slides_from 0 plan.sidings) ++ filter q (all_leaving plan) in
    found_there (is_past c.args.last) (filter q (all_passing plan)) rest c.next_passing.result c.next_outward.result c.next_passing.ensures c.in-None.is
    (c.next_outward.ensures other)
