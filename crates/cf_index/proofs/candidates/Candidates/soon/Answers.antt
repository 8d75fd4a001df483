use Rattle.std.proofs.Common.{◌≢◌, ◌++◌, ◌<◌, ap, arith}
use Rattle.std.specs.Prelude.{filter}
use Rattle.cf_semantics.specs.moves.Candidates.{slides_from}
use Rattle.cf_index.specs.declared.rank.Rank.{Rank}
use Rattle.cf_index.specs.Allowed.{all_leaving, all_passing, is_allowed, withheld}
use Rattle.cf_index.specs.GuessRules.{guided}
use Rattle.cf_index.specs.Order.{kind_place, slide_place}
use Rattle.cf_index.proofs.Firsts.{found_soon, unissued, wrapped}
use Rattle.cf_index.proofs.Ranks.{found_rank}
use Rattle.cf_index.proofs.candidates.Candidates.soon.Goals as goal

pub returns-then-last-eq-ISSUE-clause-next : goal.returns-then-last-eq-ISSUE-clause-next
returns-then-last-eq-ISSUE-clause-next c = λ mv stands.
    let moves = withheld c.args.held (guided c.args.rule c.args.core.now.plan c.args.core.now.state) in
    let kind = ap (λ (r : Rank). r.kind) stands in
    unissued moves mv c.first_unissued.result (omega (arith, kind)) c.first_unissued.ensures.first c.first_unissued.ensures.other

pub returns-in-Some-clause-next : goal.returns-in-Some-clause-next
returns-in-Some-clause-next c = λ mv stands.
    let plan = c.args.core.now.plan in
    let s = c.args.core.now.state in
    let q = is_allowed plan s in
    let rest = filter q (all_passing plan) ++ (filter q (slides_from 0 plan.sidings) ++ filter q (all_leaving plan)) in
    let kind = ap (λ (r : Rank). r.kind) stands in
    let after : 0 < kind_place mv = omega (arith, kind) in
    let outside : kind_place mv ≢ slide_place = λ slide. absurd (omega (arith, kind, slide)) in
    let found = found_rank c.args.last mv rest c.next.result stands after outside (c.next.ensures (λ slide. absurd (omega (arith, slide)))) in
    found_soon c.args.rule plan s mv c.in-Some.next c.args.held c.next.result after found c.in-Some.is

pub returns-in-None-clause-next : goal.returns-in-None-clause-next
returns-in-None-clause-next c = λ mv stands.
    let plan = c.args.core.now.plan in
    let s = c.args.core.now.state in
    let q = is_allowed plan s in
    let rest = filter q (all_passing plan) ++ (filter q (slides_from 0 plan.sidings) ++ filter q (all_leaving plan)) in
    let kind = ap (λ (r : Rank). r.kind) stands in
    let after : 0 < kind_place mv = omega (arith, kind) in
    let outside : kind_place mv ≢ slide_place = λ slide. absurd (omega (arith, kind, slide)) in
    let found = found_rank c.args.last mv rest c.next.result stands after outside (c.next.ensures (λ slide. absurd (omega (arith, slide)))) in
    wrapped c.args.rule plan s mv c.args.held c.next.result c.first.result after found c.in-None.is c.first.ensures
